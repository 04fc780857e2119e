-- A few words on lists.
use Rattle.std.specs.Prelude.{ℕ, List, length, Bool, ◌==◌, Option, None, Some, true, nat_lt}
use Rattle.std.specs.List.{flat_map, range_with_len}

-- no member
abbrev pub is_empty : {X : Type 0} → List X → Bool
is_empty xs = length xs == 0

-- the lists joined in order
abbrev pub joined : {X : Type 0} → List (List X) → List X
joined xss = flat_map (λ xs. xs) xss

-- 0, 1 and so on below n
abbrev pub numbers_below : ℕ → List ℕ
numbers_below n = range_with_len 0 n

-- the number is below the bound, where there is one
abbrev pub is_below_bound : Option ℕ → ℕ → Bool
is_below_bound None k = true
is_below_bound (Some n) k = nat_lt k n
