-- Integers on one side of a number.
use Rattle.std.specs.Prelude.{ℤ, int_lt, Bool, ◌&&◌, ◌||◌}
use Rattle.std.specs.Ordering.{int_eq}

-- above it, or the number itself where it is held
abbrev pub is_from : (low : ℤ) (with_low : Bool) → ℤ → Bool
is_from low with_low z = int_lt low z || (with_low && int_eq z low)

-- below it, or the number itself where it is held
abbrev pub is_to : (high : ℤ) (with_high : Bool) → ℤ → Bool
is_to high with_high z = int_lt z high || (with_high && int_eq z high)

-- both ends are one number, which one of them holds
abbrev pub is_alone : (low : ℤ) (with_low : Bool) (high : ℤ) (with_high : Bool) → Bool
is_alone low with_low high with_high = int_eq low high && (with_low || with_high)
