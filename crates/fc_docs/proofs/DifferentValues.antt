-- Values that were sorted, and of which equal ones were dropped, are the different values.
use Rattle.std.proofs.Common.{◌≡◌, List, [], ◌∷◌, map, Bool, true, ◌||◌, refl, sym, ◌∙◌, ap}
use Rattle.std.specs.List.{All, list_any}
use Rattle.std.specs.List.Retain.{IsFiltered, DiffersFromLast}
use Rattle.std.specs.List.Sorted.{IsPermutation, IsSorted, IsStrictlySortedBy}
use Rattle.std.specs.Ordering.{on}
use Rattle.std.proofs.lemmas.List.Elements.{All-map}
use Rattle.std.proofs.lemmas.List.Filters.{All-dedup, dedup_is}
use Rattle.std.proofs.lemmas.List.Kept.{IsStrictlySortedBy-dedup}
use Rattle.std.proofs.lemmas.List.Sorted.{All-permutation, list_any-IsPermutation}
use Rattle.std.proofs.lemmas.Map.Keys.{Less-from_sorted}
use Rattle.fc_spec.specs.documents.Val as definition
use Rattle.fc_spec.specs.documents.Val.{val_cmp, same_val, has_val, distinct}
use Rattle.fc_spec.specs.documents.Columns.{IsAscending}
use Rattle.fc_spec.proofs.documents.Ascending.{same_ascending, distinct_ascends, has_val-distinct}
use Rattle.fc_spec.proofs.words.SortedLists.{sorted-map}
use Rattle.fc_spec.proofs.documents.ValOrder.{same_val_exact}
use Rattle.fc_base.specs.declared.value.Val.{Val}
use Rattle.fc_base.specs.ValOrder.{vals_total}
use Rattle.fc_base.specs.View.{val_view}
use Rattle.fc_docs.proofs.Deduped.{any_dedup}

-- the values xs, sorted as ys, of which zs are the different ones
pub record AreSorted (xs ys zs : List Val) : Type 0 where
  pub moved : IsPermutation xs ys
  pub sorted : IsSorted (on val_view val_cmp) ys
  pub kept : IsFiltered (DiffersFromLast (on val_view same_val)) [] ys zs

-- ---- the same values
has_view : (v : definition.Val) (xs : List Val) → has_val v (map val_view xs) ≡ list_any (λ x. same_val v (val_view x)) xs
has_view v [] = refl
has_view v (x ∷ xs) = ap (λ b. same_val v (val_view x) || b) (has_view v xs)

same_values : (v : definition.Val) (xs ys zs : List Val) → AreSorted xs ys zs → has_val v (map val_view zs) ≡ has_val v (map val_view xs)
same_values v xs ys zs h =
    let p : Val → Bool = λ x. same_val v (val_view x) in
    let alike : (x y : Val) → on val_view same_val x y ≡ true → p x ≡ p y = λ x y e. ap (λ w. same_val v w) (same_val_exact (val_view x) (val_view y) e) in
    has_view v zs ∙ ap (list_any p) (dedup_is (on val_view same_val) ys zs h.kept) ∙ any_dedup (on val_view same_val) p alike ys ∙ sym (list_any-IsPermutation p xs ys h.moved) ∙ sym (has_view v xs)

-- ---- in index order
strictly : (xs ys zs : List Val) → AreSorted xs ys zs → IsStrictlySortedBy (on val_view val_cmp) zs
strictly xs ys zs h = rw (dedup_is (on val_view same_val) ys zs h.kept) (IsStrictlySortedBy-dedup vals_total (λ x y. refl) ys h.sorted)

pub are_distinct : (xs ys zs : List Val) → AreSorted xs ys zs → map val_view zs ≡ distinct (map val_view xs)
are_distinct xs ys zs h =
    same_ascending (map val_view zs) (distinct (map val_view xs)) (sorted-map val_view val_cmp zs (strictly xs ys zs h)) (distinct_ascends (map val_view xs))
    (λ v. same_values v xs ys zs h ∙ sym (has_val-distinct v (map val_view xs)))

pub ascend : (xs ys zs : List Val) → AreSorted xs ys zs → IsAscending val_cmp (map val_view zs)
ascend xs ys zs h = λ i j d before within. Less-from_sorted val_cmp (map val_view zs) i j d (sorted-map val_view val_cmp zs (strictly xs ys zs h)) before within

pub still_all : (P : definition.Val → Type 0) (xs ys zs : List Val) → AreSorted xs ys zs → All (λ x. P (val_view x)) xs → All P (map val_view zs)
still_all P xs ys zs h all =
    All-map P val_view zs (rw (dedup_is (on val_view same_val) ys zs h.kept) (All-dedup (on val_view same_val) (λ x. P (val_view x)) ys (All-permutation (λ x. P (val_view x)) xs ys h.moved all)))
