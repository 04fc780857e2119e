-- Of pairs that were sorted, and of which equal ones were dropped, those of one field are its different values.
use Rattle.std.proofs.Common.{◌≡◌, ℕ, List, [], ◌∷◌, eqb, Bool, true, false, cond, ◌||◌, ◌&&◌, refl, sym, ◌∙◌, ap}
use Rattle.std.specs.List.{list_any}
use Rattle.std.proofs.lemmas.Bool.{eqb-true}
use Rattle.std.proofs.lemmas.List.Filters.{dedup_is}
use Rattle.std.proofs.lemmas.List.Sorted.{list_any-IsPermutation}
use Rattle.fc_spec.specs.documents.Val.{Val, same_val, has_val, distinct}
use Rattle.fc_spec.proofs.documents.Ascending.{same_ascending, distinct_ascends, has_val-distinct}
use Rattle.fc_spec.proofs.documents.ValOrder.{same_val_exact}
use Rattle.fc_base.specs.View.{val_view}
use Rattle.fc_docs.specs.Direct.{given_to, given_view}
use Rattle.fc_docs.specs.Runs.{Rise}
use Rattle.fc_docs.proofs.Deduped.{any_dedup}
use Rattle.fc_docs.proofs.PairOrder.{Pair, AreSortedPairs, same_pair, strictly, all_rise, ascends}

-- whether the pair gives the value to the field
abbrev gives : ℕ → Val → Pair → Bool
gives n v p = eqb n p.0.0 && same_val v (val_view p.1)

has_given : (n : ℕ) (v : Val) (xs : List Pair) → has_val v (given_to n (given_view xs)) ≡ list_any (gives n v) xs
has_given n v [] = refl
has_given n v (x ∷ xs) = go (eqb n x.0.0) (has_given n v xs)
  where
    go : (b : Bool) → has_val v (given_to n (given_view xs)) ≡ list_any (gives n v) xs
        → has_val v (cond b (val_view x.1 ∷ given_to n (given_view xs)) (given_to n (given_view xs))) ≡ ((b && same_val v (val_view x.1)) || list_any (gives n v) xs)
    go true later = ap (λ b. same_val v (val_view x.1) || b) later
    go false later = later

alike : (n : ℕ) (v : Val) (x y : Pair) → same_pair x y ≡ true → gives n v x ≡ gives n v y
alike n v x y is = go (eqb x.0.0 y.0.0) refl is
  where
    go : (b : Bool) → eqb x.0.0 y.0.0 ≡ b → (b && same_val (val_view x.1) (val_view y.1)) ≡ true → gives n v x ≡ gives n v y
    go true field val = let one = eqb-true x.0.0 y.0.0 field in let other = same_val_exact (val_view x.1) (val_view y.1) val in rw (one, other) refl
    go false field val = cc

same_values : (n : ℕ) (v : Val) (xs ys zs : List Pair) → AreSortedPairs xs ys zs → has_val v (given_to n (given_view zs)) ≡ has_val v (given_to n (given_view xs))
same_values n v xs ys zs h =
    has_given n v zs ∙ ap (list_any (gives n v)) (dedup_is same_pair ys zs h.kept) ∙ any_dedup same_pair (gives n v) (alike n v) ys
    ∙ sym (list_any-IsPermutation (gives n v) xs ys h.moved) ∙ sym (has_given n v xs)

pub rise : (xs ys zs : List Pair) → AreSortedPairs xs ys zs → Rise 0 (given_view zs)
rise xs ys zs h = all_rise zs (strictly xs ys zs h)

pub given_to_each : (xs ys zs : List Pair) → AreSortedPairs xs ys zs → (n : ℕ) → given_to n (given_view zs) ≡ distinct (given_to n (given_view xs))
given_to_each xs ys zs h n =
    same_ascending (given_to n (given_view zs)) (distinct (given_to n (given_view xs))) (ascends n zs (strictly xs ys zs h)) (distinct_ascends (given_to n (given_view xs)))
    (λ v. same_values n v xs ys zs h ∙ sym (has_val-distinct v (given_to n (given_view xs))))
