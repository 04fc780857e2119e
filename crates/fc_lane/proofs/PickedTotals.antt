-- What is picked of integers adds up to no more than all their absolute values.
use Rattle.std.proofs.Common.{ℕ, ℤ, ◌≤◌, length, Bool, true, false, List, [], ◌∷◌, sum_by, arith, w64}
use Rattle.std.specs.Prelude.{nat_abs, FitsSigned}
use Rattle.std.specs.List.{items_where_true}
use Rattle.std.proofs.lemmas.Int.{ints}
use Rattle.std.proofs.lemmas.List.Sums.{sum_by-cons}
use Rattle.fc_spec.specs.documents.Bits.{first_bits}
use Rattle.fc_spec.specs.requests.Statistics.{total_of}
use Rattle.fc_spec.specs.scripts.ScriptTotals.{total_limit}
use Rattle.fc_lane.specs.Masked.{masked}

-- a sum is no larger than the absolute values added up
pub total_size : (xs : List ℤ) → nat_abs (total_of xs) ≤ sum_by nat_abs xs
total_size [] = omega arith
total_size (x ∷ xs) = omega (arith, ints, total_size xs, sum_by-cons nat_abs x xs)

pub small_fits : (z : ℤ) → nat_abs z ≤ total_limit → FitsSigned w64 z
small_fits z small = omega (arith, ints)

-- those at the places where a list has true have no more
pub fewer_picked : {X : Type 0} (f : X → ℕ) (set : List Bool) (xs : List X) → sum_by f (items_where_true set xs) ≤ sum_by f xs
fewer_picked f [] xs = omega arith
fewer_picked f (b ∷ set) [] = omega arith
fewer_picked f (true ∷ set) (x ∷ xs) = omega (arith, sum_by-cons f x (items_where_true set xs), sum_by-cons f x xs, fewer_picked f set xs)
fewer_picked f (false ∷ set) (x ∷ xs) = omega (arith, sum_by-cons f x xs, fewer_picked f set xs)

pub masked_size : (words : List ℕ) (xs : List ℤ) → nat_abs (total_of (masked words xs)) ≤ sum_by nat_abs xs
masked_size words xs = omega (arith, total_size (masked words xs), fewer_picked nat_abs (first_bits (length xs) words) xs)
