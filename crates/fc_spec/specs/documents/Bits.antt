-- Words of 64 bits as sets of positions: bit j of word i stands for position 64 i + j.
use Rattle.std.specs.Prelude.{◌≡◌, ℕ, ◌+◌, ◌/◌, ◌%◌, Bool, false, ◌==◌, List, map, slice_index, slice_index_or}
use Rattle.std.specs.Int.{bit_at}
use Rattle.std.specs.List.{range_with_len}

-- the bit of a position is 1; past the last word there are only 0s
unfoldable pub has_bit : List ℕ → ℕ → Bool
has_bit words at = bit_at (slice_index words (at / 64)) (at % 64) == 1

-- how many words hold a bit for each position below len
abbrev pub words_for : ℕ → ℕ
words_for len = (len + 63) / 64

-- whether the bit of each position below len is 1
abbrev pub first_bits : ℕ → List ℕ → List Bool
first_bits len words = map (has_bit words) (range_with_len 0 len)

-- a bit is 1 exactly where the list has true: every bit past the list's end is 0
abbrev pub HasBits : List ℕ → List Bool → Type 0
HasBits words bits = (at : ℕ) → has_bit words at ≡ slice_index_or bits at false
