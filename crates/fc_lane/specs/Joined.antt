-- Words joined with those of another list.
use Rattle.std.specs.Prelude.{◌≡◌, ℕ, ◌<◌, ◌≤◌, List, length, bit_and, slice_index}
use Rattle.std.specs.Int.{bit_not, w64}

-- a word without the bits of another
abbrev pub and_not : ℕ → ℕ → ℕ
and_not word other = bit_and word (bit_not w64 other)

-- the words from a place on are joined one by one; those below it are as they were
pub record AreJoinedFrom (join : ℕ → ℕ → ℕ) (from : ℕ) (old others new : List ℕ) : Type 0 where
  pub joined : (k : ℕ) → from ≤ k → k < length old → slice_index new k ≡ join (slice_index old k) (slice_index others k)
  pub kept : (k : ℕ) → k < from → slice_index new k ≡ slice_index old k
