-- Lists of which each member stands before every later one.
use Rattle.std.specs.Prelude.{◌≡◌, ℕ, suc, ◌<◌, List, [], ◌∷◌, length, map}
use Rattle.std.specs.List.{AllByRecursion}
use Rattle.std.specs.List.Sorted.{IsStrictlySortedBy}
use Rattle.std.specs.Ordering.{on}
use Rattle.std.specs.declared.cmp.Ordering.{Ordering}
use Rattle.std.specs.declared.cmp.Ordering.TheVariants.{Less}
use Rattle.std.proofs.Common.{get_or, arith}
use Rattle.fc_spec.specs.documents.Columns.{IsAscending}

below_all : {X : Type 0} (cmp : X → X → Ordering) (x : X) (xs : List X) → ((k : ℕ) (d : X) → k < length xs → cmp x (get_or xs k d) ≡ Less) → AllByRecursion (λ y. cmp x y ≡ Less) xs
below_all cmp x [] below = tt
below_all cmp x (y ∷ ys) below = (below 0 y (omega arith), below_all cmp x ys (λ k d within. below (suc k) d (omega arith)))

pub sorted_from_ascending : {X : Type 0} (cmp : X → X → Ordering) (xs : List X) → IsAscending cmp xs → IsStrictlySortedBy cmp xs
unfolding IsStrictlySortedBy
sorted_from_ascending cmp [] ascending = tt
sorted_from_ascending cmp (x ∷ xs) ascending = (
  below_all cmp x xs (λ k d within. ascending 0 (suc k) d (omega arith) (omega arith)),
  sorted_from_ascending cmp xs (λ i j d before within. ascending (suc i) (suc j) d (omega arith) (omega arith)),
)

map_below : {X Y : Type 0} (f : X → Y) (cmp : Y → Y → Ordering) (x : X) (xs : List X) → AllByRecursion (λ y. on f cmp x y ≡ Less) xs → AllByRecursion (λ y. cmp (f x) y ≡ Less) (map f xs)
map_below f cmp x [] below = tt
map_below f cmp x (y ∷ ys) below = (below.0, map_below f cmp x ys below.1)

-- the images stand in the order by which the members do
pub sorted-map : {X Y : Type 0} (f : X → Y) (cmp : Y → Y → Ordering) (xs : List X) → IsStrictlySortedBy (on f cmp) xs → IsStrictlySortedBy cmp (map f xs)
unfolding IsStrictlySortedBy
sorted-map f cmp [] sorted = tt
sorted-map f cmp (x ∷ xs) sorted = (map_below f cmp x xs sorted.0, sorted-map f cmp xs sorted.1)
