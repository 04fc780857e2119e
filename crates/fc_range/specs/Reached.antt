-- Gaps that count a document, in the order of their numbers.
use Rattle.std.specs.Prelude.{◌≡◌, ◌⊎◌, ℕ, ◌+◌, ℤ, nat_lt, ◌≤◌, Bool, true, false, ◌&&◌}
use Rattle.fc_spec.specs.requests.Gaps.{gap_count, in_gap}
use Rattle.fc_spec.specs.requests.Request.{Range}

-- a gap that is there holds the integer
abbrev pub is_held : Range → ℤ → ℕ → Bool
is_held g x i = nat_lt i (gap_count g) && in_gap g i x

-- up to where gaps have been reached, before and after some of them counted: none behind did, and the last one did if it was not reached before
pub record IsReached (counts : ℕ → Bool) (old new : ℕ) : Type 0 where
  pub rises : old ≤ new
  pub behind : (i : ℕ) → new ≤ i → counts i ≡ false
  pub last : (new ≡ old) ⊎ ((i : ℕ) → new ≡ i + 1 → counts i ≡ true)
