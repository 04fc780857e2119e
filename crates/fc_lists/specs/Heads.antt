-- The different positions of items, and where the items of each start.
use Rattle.std.specs.Prelude.{◌≡◌, ℕ, ◌+◌, ◌<◌, ◌≤◌, List, length, slice_index, count_by, nat_lt}
use Rattle.std.specs.List.Sorted.{IsStrictlyIncreasing}
use Rattle.fc_lists.specs.Among.{is_among}

-- the positions are those of the items, each once; ahead of the items of one stand those of the positions below it
pub record AreHeads (all positions starts : List ℕ) : Type 0 where
  pub rising : IsStrictlyIncreasing positions
  pub same : (at : ℕ) → is_among at positions ≡ is_among at all
  pub few : length positions ≤ length all
  pub size : length starts ≡ length positions + 1
  pub places : (k : ℕ) → k < length positions → slice_index starts k ≡ count_by (λ at. nat_lt at (slice_index positions k)) all
  pub end : slice_index starts (length positions) ≡ length all
