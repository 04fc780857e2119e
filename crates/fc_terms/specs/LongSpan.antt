-- The integers from one to another, by number.
use Rattle.std.specs.Prelude.{ℕ, ℤ, pos, ◌+ℤ◌, Bool, List, [], map, slice_index_or, FitsSigned}
use Rattle.std.specs.Int.{w64}
use Rattle.fc_spec.specs.documents.Val.{long, has_val}
use Rattle.fc_spec.specs.requests.Buckets.{Key}
use Rattle.fc_partial.specs.TallyParts.{long_key}

-- whether the position has the integer of a number
abbrev pub has_integer : List (List ℤ) → (least : ℤ) → ℕ → ℕ → Bool
has_integer column least at i = has_val (long (least +ℤ pos i)) (map long (slice_index_or column at []))

-- there is an integer of the number
abbrev pub IsIntegerNumber : (least : ℤ) → ℤ → Type 0
IsIntegerNumber least n = FitsSigned w64 (least +ℤ n)

-- the key of the integer of a number
abbrev pub integer_key : (least : ℤ) → ℤ → Key
integer_key least n = long_key (least +ℤ n)
