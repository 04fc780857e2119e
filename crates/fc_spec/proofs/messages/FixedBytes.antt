-- Numbers of 8 and of 4 bytes and integers of 8 are read as they were written.
use Rattle.std.specs.Prelude.{◌≡◌, ℕ, ◌<◌, ◌^◌, ℤ, List, FitsSigned}
use Rattle.std.specs.Int.{w32, w64, to_le_bytes, from_le_bytes, cast_signed, cast_unsigned}
use Rattle.std.proofs.Common.{refl, ap, ◌∙◌}
use Rattle.std.proofs.Math.Facts.{Fits-lt-pow, Fits-of_z}
use Rattle.std.proofs.lemmas.Int.{to_z-of_z}
use Rattle.std.proofs.lemmas.Nat.{from_le_bytes-to_le_bytes_4, from_le_bytes-to_le_bytes_8}
use Rattle.fc_spec.specs.messages.MessageBytes.{long_bytes, integer_bytes}
use Rattle.fc_spec.proofs.words.Cancelling.{Cancels, Reads, Cancels-from_reader, read_fixed, Reads-fixed}

-- a number has 8 bytes
abbrev pub IsLong : ℕ → Type 0
IsLong n = n < 2 ^ 64

-- a number has 4 bytes
abbrev pub IsShort : ℕ → Type 0
IsShort n = n < 2 ^ 32

-- a number of 8 bytes
abbrev pub read_long : List ℕ → ℕ × List ℕ
read_long = read_fixed 8 (from_le_bytes w64)

-- a number of 4 bytes
abbrev pub read_short : List ℕ → ℕ × List ℕ
read_short = read_fixed 4 (from_le_bytes w32)

-- an integer of 8 bytes
abbrev pub read_integer : List ℕ → ℤ × List ℕ
read_integer = read_fixed 8 (λ l. cast_signed w64 (from_le_bytes w64 l))

-- a number of 8 bytes is read
pub Reads-long : Reads read_long long_bytes IsLong
Reads-long = Reads-fixed 8 (from_le_bytes w64) long_bytes IsLong (λ n. refl) from_le_bytes-to_le_bytes_8

-- a number of 4 bytes is read
pub Reads-short : Reads read_short (to_le_bytes w32) IsShort
Reads-short = Reads-fixed 4 (from_le_bytes w32) (to_le_bytes w32) IsShort (λ n. refl) from_le_bytes-to_le_bytes_4

-- an integer is what its 8 bytes say
integer_again : (z : ℤ) → FitsSigned w64 z → cast_signed w64 (from_le_bytes w64 (integer_bytes z)) ≡ z
integer_again z h = ap (cast_signed w64) (from_le_bytes-to_le_bytes_8 (cast_unsigned w64 z) (Fits-lt-pow (Fits-of_z h))) ∙ to_z-of_z w64 z h

-- an integer is read
pub Reads-integer : Reads read_integer integer_bytes (FitsSigned w64)
Reads-integer = Reads-fixed 8 (λ l. cast_signed w64 (from_le_bytes w64 l)) integer_bytes (FitsSigned w64) (λ z. refl) integer_again

-- numbers of 8 bytes cancel
pub Cancels-long : Cancels long_bytes IsLong
Cancels-long = Cancels-from_reader read_long long_bytes IsLong Reads-long
