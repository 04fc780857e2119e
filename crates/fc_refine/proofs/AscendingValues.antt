-- Entries of ascending values, and filters.
use Rattle.std.proofs.Common.{◌≡◌, List, [], ◌∷◌, map, Bool}
use Rattle.std.specs.List.{AllByRecursion, filter}
use Rattle.std.specs.List.Sorted.{IsStrictlySortedBy}
use Rattle.std.specs.Ordering.{on}
use Rattle.std.specs.declared.cmp.Ordering.{Ordering}
use Rattle.std.specs.declared.cmp.Ordering.TheVariants.{Less}
use Rattle.std.proofs.lemmas.List.Kept.{IsStrictlySortedBy-filter}
use Rattle.fc_spec.specs.documents.Val.{val_cmp}
use Rattle.fc_spec.specs.requests.Ranks.{Entry}
use Rattle.fc_spec.proofs.words.SortedLists.{sorted-map}
use Rattle.fc_refine.specs.Entries.{HaveAscendingValues}

below_members : {X Y : Type 0} (f : X → Y) (cmp : Y → Y → Ordering) (x : X) (xs : List X) → AllByRecursion (λ y. cmp (f x) y ≡ Less) (map f xs) → AllByRecursion (λ y. on f cmp x y ≡ Less) xs
below_members f cmp x [] below = tt
below_members f cmp x (y ∷ ys) below = (below.0, below_members f cmp x ys below.1)

-- the members stand in the order of their images
members_sorted : {X Y : Type 0} (f : X → Y) (cmp : Y → Y → Ordering) (xs : List X) → IsStrictlySortedBy cmp (map f xs) → IsStrictlySortedBy (on f cmp) xs
unfolding IsStrictlySortedBy
members_sorted f cmp [] sorted = tt
members_sorted f cmp (x ∷ xs) sorted = (below_members f cmp x xs sorted.0, members_sorted f cmp xs sorted.1)

pub ascending-filter : (p : Entry → Bool) (es : List Entry) → HaveAscendingValues es → HaveAscendingValues (filter p es)
ascending-filter p es h =
    let by_value = members_sorted (λ (e : Entry). e.val) val_cmp es h in
    sorted-map (λ (e : Entry). e.val) val_cmp (filter p es) (IsStrictlySortedBy-filter (on (λ (e : Entry). e.val) val_cmp) p es by_value)
