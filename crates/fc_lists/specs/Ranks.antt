-- How many positions of a set stand below one.
use Rattle.std.specs.Prelude.{ℕ, List, count_by}
use Rattle.fc_spec.specs.documents.Bits.{first_bits}

-- how many bits below a position are 1
abbrev pub bits_below : ℕ → List ℕ → ℕ
bits_below at words = count_by (λ here. here) (first_bits at words)
