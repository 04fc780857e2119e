-- Rows have the terms whose ordinals they have.
use Rattle.std.proofs.Common.{◌≡◌, ◌<◌, ℕ, true, ◌&&◌, ◌||◌, ◌==◌, List, [], ◌∷◌, length, get_or, nat_le, refl, sym, ap, ap₂, ◌∙◌, arith}
use Rattle.std.specs.List.{list_any}
use Rattle.std.specs.Ordering.{is_le}
use Rattle.std.proofs.lemmas.Bool.{or_left, or_right}
use Rattle.std.proofs.lemmas.Bool.Decides.{nat_tests}
use Rattle.std.proofs.lemmas.List.Folds.{list_any_at}
use Rattle.fc_spec.specs.documents.Val.{Text, text_cmp, same_text}
use Rattle.fc_spec.proofs.words.Texts.{same_itself}
use Rattle.fc_lists.specs.Among.{is_among}
use Rattle.fc_column.specs.Terms.{has_text, ordinals_in, terms_below, terms_of}
use Rattle.fc_column.proofs.SortedTerms.{place_of_term}
use Rattle.fc_column.proofs.TermLists.{has_text-terms_of}
use Rattle.fc_domain.proofs.TextOrder.{le_both_ways}
use Rattle.fc_domain.proofs.TextRows.{from_including}
use Rattle.fc_column.proofs.TermOrder.{terms_ascend}

module _ (column : List (List Text)) (ord : ℕ) (here : ord < length (terms_of column)) where
  -- each term is a text of the column
  pub term_among : list_any (has_text (get_or (terms_of column) ord [])) column ≡ true
  term_among =
      let t = get_or (terms_of column) ord [] in
      sym (has_text-terms_of t column) ∙ list_any_at (same_text t) (terms_of column) ord [] here (same_itself t)

  pub is_ordinal : (u : Text) → list_any (has_text u) column ≡ true → (ord == terms_below column u) ≡ same_text (get_or (terms_of column) ord []) u
  is_ordinal u among =
      let t = get_or (terms_of column) ord [] in
      let place : terms_below column t ≡ ord = place_of_term (terms_of column) (terms_ascend column) ord [] here in
      let up : nat_le ord (terms_below column u) ≡ is_le (text_cmp t u) = ap (λ n. nat_le n (terms_below column u)) (sym place) ∙ from_including column u among t in
      let down : nat_le (terms_below column u) ord ≡ is_le (text_cmp u t) = ap (nat_le (terms_below column u)) (sym place) ∙ from_including column t term_among u in
      both ord (terms_below column u) ∙ ap₂ (λ a b. a && b) up down ∙ le_both_ways t u
    where
      both : (m n : ℕ) → (m == n) ≡ (nat_le m n && nat_le n m)
      both m n = grind (arith, nat_tests)

  row_has : (texts : List Text) → ((u : Text) → has_text u texts ≡ true → list_any (has_text u) column ≡ true) → is_among ord (ordinals_in column texts) ≡ has_text (get_or (terms_of column) ord []) texts
  row_has [] among = refl
  row_has (u ∷ us) among =
      ap₂ (λ a b. a || b) (is_ordinal u (among u (or_left (same_text u u) (has_text u us) (same_itself u))))
      (row_has us (λ v h. among v (or_right (same_text v u) (has_text v us) h)))

  pub position_has : (at : ℕ) → at < length column → is_among ord (ordinals_in column (get_or column at [])) ≡ has_text (get_or (terms_of column) ord []) (get_or column at [])
  position_has at within = row_has (get_or column at []) (λ u h. list_any_at (has_text u) column at [] within h)
