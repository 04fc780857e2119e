-- The first terms of a column behind a date.
use Rattle.std.proofs.Common.{◌≡◌, ◌<◌, ◌≤◌, ℕ, Bool, true, false, not, List, [], length, get_or, nat_le, sym, ap, ◌∙◌, arith, inl, inr, subst}
use Rattle.std.specs.List.{list_any}
use Rattle.std.specs.Ordering.{is_le, is_lt}
use Rattle.std.proofs.lemmas.Bool.{cases_lt}
use Rattle.std.proofs.lemmas.List.Folds.{list_any_at}
use Rattle.std.proofs.lemmas.List.Sums.{count_by-le-length}
use Rattle.fc_spec.specs.documents.Val.{Text, same_text, text_cmp}
use Rattle.fc_spec.proofs.words.Texts.{same_itself}
use Rattle.fc_column.specs.Terms.{has_text, terms_below, terms_of, terms_up_to}
use Rattle.fc_column.proofs.SortedTerms.{place_of_term}
use Rattle.fc_column.proofs.TermLists.{has_text-terms_of}
use Rattle.fc_column.proofs.TermOrder.{terms_ascend}
use Rattle.fc_domain.proofs.TextRows.{from_excluding, from_including}
use Rattle.fc_range.proofs.Tests.{from_is}
use Rattle.fc_date_range.proofs.HeldDates.{from_held, from_left, not_to_held, not_to_left}
use Rattle.fc_date_range.proofs.Tests as tests
use Rattle.fc_date_range.specs.HeldDates.{is_from, is_to}
use Rattle.fc_date_range.specs.Spans.{IsFirst}

module _ (column : List (List Text)) where
  -- each term is a text of the column, and its ordinal is how many terms are below it
  pub term_among : (ord : ℕ) → ord < length (terms_of column) → list_any (has_text (get_or (terms_of column) ord [])) column ≡ true
  term_among ord here =
      let t = get_or (terms_of column) ord [] in
      sym (has_text-terms_of t column) ∙ list_any_at (same_text t) (terms_of column) ord [] here (same_itself t)

  place : (ord : ℕ) → ord < length (terms_of column) → terms_below column (get_or (terms_of column) ord []) ≡ ord
  place ord here = place_of_term (terms_of column) (terms_ascend column) ord [] here

  -- those from the terms below a date on, and those behind the date
  pub from_below : (date : Text) (ord : ℕ) → ord < length (terms_of column) → nat_le (terms_below column date) ord ≡ is_le (text_cmp date (get_or (terms_of column) ord []))
  from_below date ord here = ap (nat_le (terms_below column date)) (sym (place ord here)) ∙ from_including column (get_or (terms_of column) ord []) (term_among ord here) date

  pub from_up_to : (date : Text) (ord : ℕ) → ord < length (terms_of column) → nat_le (terms_up_to column date) ord ≡ is_lt (text_cmp date (get_or (terms_of column) ord []))
  from_up_to date ord here = ap (nat_le (terms_up_to column date)) (sym (place ord here)) ∙ from_excluding column (get_or (terms_of column) ord []) (term_among ord here) date

  pub below_within : (date : Text) → terms_below column date ≤ length (terms_of column)
  below_within date = count_by-le-length (λ term. is_lt (text_cmp term date)) (terms_of column)

  pub up_to_within : (date : Text) → terms_up_to column date ≤ length (terms_of column)
  up_to_within date = count_by-le-length (λ term. is_le (text_cmp term date)) (terms_of column)

  -- the ends of a span
  module _ (date : Text) (with : Bool) (first : ℕ) where
    pub held_from : with ≡ true → first ≡ terms_below column date → IsFirst column (is_from date with) first
    held_from e is = record {
      within = subst (λ n. n ≤ length (terms_of column)) (sym is) (below_within date);
      exact = λ ord here.
          let t = get_or (terms_of column) ord [] in
          ap (λ n. nat_le n ord) is ∙ from_below date ord here ∙ sym (from_held date t) ∙ ap (λ b. is_from date b t) (sym e);
    }

    pub left_from : with ≡ false → first ≡ terms_up_to column date → IsFirst column (is_from date with) first
    left_from e is = record {
      within = subst (λ n. n ≤ length (terms_of column)) (sym is) (up_to_within date);
      exact = λ ord here.
          let t = get_or (terms_of column) ord [] in
          ap (λ n. nat_le n ord) is ∙ from_up_to date ord here ∙ sym (from_left date t) ∙ ap (λ b. is_from date b t) (sym e);
    }

    pub held_behind : with ≡ true → first ≡ terms_up_to column date → IsFirst column (λ t. not (is_to date with t)) first
    held_behind e is = record {
      within = subst (λ n. n ≤ length (terms_of column)) (sym is) (up_to_within date);
      exact = λ ord here.
          let t = get_or (terms_of column) ord [] in
          ap (λ n. nat_le n ord) is ∙ from_up_to date ord here ∙ sym (not_to_held date t) ∙ ap (λ b. not (is_to date b t)) (sym e);
    }

    pub left_behind : with ≡ false → first ≡ terms_below column date → IsFirst column (λ t. not (is_to date with t)) first
    left_behind e is = record {
      within = subst (λ n. n ≤ length (terms_of column)) (sym is) (below_within date);
      exact = λ ord here.
          let t = get_or (terms_of column) ord [] in
          ap (λ n. nat_le n ord) is ∙ from_below date ord here ∙ sym (not_to_left date t) ∙ ap (λ b. not (is_to date b t)) (sym e);
    }

  -- where the same terms pass, it is the same one
  pub first_alike : (p q : Text → Bool) (first : ℕ) → ((t : Text) → p t ≡ q t) → IsFirst column p first → IsFirst column q first
  first_alike p q first same f = record { within = f.within; exact = λ ord here. f.exact ord here ∙ same (get_or (terms_of column) ord []) }

  -- where fewer terms pass, the first one is no earlier
  pub first_rises : (p q : Text → Bool) (a b : ℕ) → IsFirst column p a → IsFirst column q b → ((t : Text) → q t ≡ true → p t ≡ true) → a ≤ b
  first_rises p q a b f g weaker = elim (cases_lt b a) [
    | inl less ↦
        let within = f.within in
        let here : b < length (terms_of column) = omega arith in
        let passes = weaker (get_or (terms_of column) b []) (sym (g.exact b here) ∙ from_is b b (omega arith)) in
        tests.is_from a b (f.exact b here ∙ passes)
    | inr more ↦ more
  ]
