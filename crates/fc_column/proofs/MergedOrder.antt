-- Terms in ascending order, and a text that is below none of them.
use Rattle.std.proofs.Common.{◌≡◌, ℕ, ◌+◌, ◌-◌, ◌<◌, ◌≤◌, ◌⊎◌, inl, inr, Bool, true, false, ◌||◌, List, [], ◌∷◌, ◌++◌, length, get_or, All, refl, sym, ap, ◌∙◌, arith, length-append}
use Rattle.std.proofs.lemmas.Bool.{cases_lt}
use Rattle.std.proofs.lemmas.Cmp.{nat_list_cmp_total, tied_itself}
use Rattle.std.proofs.lemmas.List.{get_or_append_left, get_or-append-add, get_or_default}
use Rattle.std.proofs.lemmas.List.Folds.{list_any_at, list_any_none, list_any-append}
use Rattle.std.proofs.lemmas.List.MinMax.{ranks_by}
use Rattle.std.proofs.lemmas.List.Quantifiers.{all_pairs_push}
use Rattle.std.proofs.lemmas.Map.Lookups.{exact_bytes}
use Rattle.std.specs.Ordering.{is_lt, is_eq, ordering_reverse}
use Rattle.std.specs.declared.cmp.Ordering.{Ordering}
use Rattle.std.specs.declared.cmp.Ordering.TheVariants.{Less, Equal, Greater}
use Rattle.fc_spec.specs.documents.Val.{Text, text_cmp, same_text}
use Rattle.fc_spec.specs.documents.Columns.{IsAscending}
use Rattle.fc_column.specs.MergedTerms.{IsNotBelow}
use Rattle.fc_column.specs.Terms.{has_text}
use Rattle.fc_column.proofs.SortedTerms.{earlier}

pub not_below_through : (t u v : Text) → is_lt (text_cmp t u) ≡ false → is_lt (text_cmp u v) ≡ false → is_lt (text_cmp t v) ≡ false
not_below_through t u v first second = (ranks_by nat_list_cmp_total (λ (x : Text). x)).chain t u v first second

reversed : (t u : Text) (o : Ordering) → text_cmp t u ≡ o → text_cmp u t ≡ ordering_reverse o
reversed t u o is = nat_list_cmp_total.antisymm u t ∙ ap ordering_reverse is

-- a text that another is not below and that is not the other is below it
pub below_if : (t u : Text) → is_lt (text_cmp t u) ≡ false → same_text t u ≡ false → text_cmp u t ≡ Less
below_if t u not_below not_same = go (text_cmp t u) refl
  where
    go : (o : Ordering) → text_cmp t u ≡ o → text_cmp u t ≡ Less
    go Less is = let wrong = sym not_below ∙ ap is_lt is in absurd cc
    go Equal is = let wrong = sym not_same ∙ ap is_eq is in absurd cc
    go Greater is = reversed t u Greater is

module _ (terms : List Text) (ascending : IsAscending text_cmp terms) (t : Text) (above : IsNotBelow terms t) where
  -- the last of the terms is the text, or none is
  pub last_is : (last : Text) → 0 < length terms → last ≡ get_or terms (length terms - 1) last → is_eq (text_cmp last t) ≡ has_text t terms
  last_is last some at = go (text_cmp last t) refl
    where
      others : text_cmp last t ≡ Less → (k : ℕ) (d : Text) → k < length terms → same_text t (get_or terms k d) ≡ false
      others less k d inside =
          let end : get_or terms (length terms - 1) d ≡ last = get_or_default terms (length terms - 1) d last (omega arith) ∙ sym at in
          by (earlier terms ascending k (length terms - 1) d (omega arith) (omega arith)) end
        where
          apart : text_cmp (get_or terms k d) t ≡ Less → same_text t (get_or terms k d) ≡ false
          apart is = ap is_eq (reversed (get_or terms k d) t Less is)

          by : ((text_cmp (get_or terms k d) (get_or terms (length terms - 1) d) ≡ Less) ⊎ (get_or terms k d ≡ get_or terms (length terms - 1) d)) → get_or terms (length terms - 1) d ≡ last
              → same_text t (get_or terms k d) ≡ false
          by (inl first) end = apart (nat_list_cmp_total.trans (get_or terms k d) (get_or terms (length terms - 1) d) t first (ap (λ u. text_cmp u t) end ∙ less))
          by (inr same) end = apart (ap (λ u. text_cmp u t) (same ∙ end) ∙ less)

      go : (o : Ordering) → text_cmp last t ≡ o → is_eq (text_cmp last t) ≡ has_text t terms
      go Less is = ap is_eq is ∙ sym (list_any_none (same_text t) terms (others is))
      go Equal is =
          let same : last ≡ t = exact_bytes last t is in
          ap is_eq is ∙ sym (list_any_at (same_text t) terms (length terms - 1) last (omega arith) (ap (same_text t) (sym at ∙ same) ∙ ap is_eq (tied_itself nat_list_cmp_total t)))
      go Greater is =
          let wrong = sym (above (length terms - 1) last (omega arith)) ∙ ap (λ u. is_lt (text_cmp t u)) (sym at) ∙ ap is_lt (reversed last t Greater is) in absurd cc

  -- where the text is there, it is the last term
  pub is_the_last : has_text t terms ≡ true → (0 < length terms) × (get_or terms (length terms - 1) [] ≡ t)
  is_the_last has = go terms refl has
    where
      go : (l : List Text) → terms ≡ l → has_text t l ≡ true → (0 < length terms) × (get_or terms (length terms - 1) [] ≡ t)
      go [] is there = absurd cc
      go (u ∷ l) is there =
          let some : 0 < length terms = omega (arith, ap length is) in
          let end = get_or terms (length terms - 1) [] in
          let equal = last_is end some (get_or_default terms (length terms - 1) [] end (omega arith)) ∙ has in
          (some, same end equal)
        where
          same : (u : Text) → is_eq (text_cmp u t) ≡ true → u ≡ t
          same u eq = by (text_cmp u t) refl
            where
              by : (o : Ordering) → text_cmp u t ≡ o → u ≡ t
              by Less o = let wrong = sym eq ∙ ap is_eq o in absurd cc
              by Equal o = exact_bytes u t o
              by Greater o = let wrong = sym eq ∙ ap is_eq o in absurd cc

  -- where it is not there, all terms are below it
  pub all_below : has_text t terms ≡ false → All (λ term. text_cmp term t ≡ Less) terms
  all_below none k d inside = below_if t (get_or terms k d) (above k d inside) (not_there k d inside)
    where
      not_there : (k : ℕ) (d : Text) → k < length terms → same_text t (get_or terms k d) ≡ false
      not_there k d inside = go (same_text t (get_or terms k d)) refl
        where
          go : (b : Bool) → same_text t (get_or terms k d) ≡ b → same_text t (get_or terms k d) ≡ false
          go true is = let wrong = sym none ∙ list_any_at (same_text t) terms k d inside is in absurd cc
          go false is = is

  pub ascending_push : has_text t terms ≡ false → IsAscending text_cmp (terms ++ t ∷ [])
  ascending_push none = all_pairs_push (λ low high. text_cmp low high ≡ Less) terms t ascending (all_below none)

  -- a text that the new one is not below is below no term either
  pub not_below_more : (u : Text) → is_lt (text_cmp u t) ≡ false → IsNotBelow terms u
  not_below_more u from k d inside = not_below_through u t (get_or terms k d) from (above k d inside)

pub not_below_push : (terms : List Text) (t u : Text) → IsNotBelow terms u → is_lt (text_cmp u t) ≡ false → IsNotBelow (terms ++ t ∷ []) u
not_below_push terms t u all last k d inside = go (cases_lt k (length terms))
  where
    go : ((k < length terms) ⊎ (length terms ≤ k)) → is_lt (text_cmp u (get_or (terms ++ t ∷ []) k d)) ≡ false
    go (inl before) = ap (λ v. is_lt (text_cmp u v)) (get_or_append_left terms (t ∷ []) d k before) ∙ all k d before
    go (inr behind) =
        let here : k ≡ length terms + 0 = omega (arith, length-append terms (t ∷ [])) in
        ap (λ v. is_lt (text_cmp u v)) (ap (λ n. get_or (terms ++ t ∷ []) n d) here ∙ get_or-append-add terms (t ∷ []) 0 d) ∙ last

-- a text that is there changes nothing
pub known_text : (t u : Text) (terms : List Text) → has_text t terms ≡ true → has_text u terms ≡ (has_text u terms || same_text u t)
known_text t u terms there = go (same_text u t) refl
  where
    same : same_text u t ≡ true → u ≡ t
    same eq = by (text_cmp u t) refl
      where
        by : (o : Ordering) → text_cmp u t ≡ o → u ≡ t
        by Less o = let wrong = sym eq ∙ ap is_eq o in absurd cc
        by Equal o = exact_bytes u t o
        by Greater o = let wrong = sym eq ∙ ap is_eq o in absurd cc

    or_false : (b : Bool) → b ≡ (b || false)
    or_false true = refl
    or_false false = refl

    go : (b : Bool) → same_text u t ≡ b → has_text u terms ≡ (has_text u terms || b)
    go true is = let has = ap (λ v. has_text v terms) (same is) ∙ there in has ∙ ap (λ b. b || true) (sym has)
    go false is = or_false (has_text u terms)

pub has_text-push : (t u : Text) (terms : List Text) → has_text u (terms ++ t ∷ []) ≡ (has_text u terms || same_text u t)
has_text-push t u terms = list_any-append (same_text u) terms (t ∷ []) ∙ ap (λ b. has_text u terms || b) (or_none (same_text u t))
  where
    or_none : (b : Bool) → (b || false) ≡ b
    or_none true = refl
    or_none false = refl
