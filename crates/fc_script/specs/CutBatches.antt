-- Numbers of commits that cut the batches of each shard.
use Rattle.std.specs.Prelude.{◌≡◌, ◌<◌, ◌≤◌, ℕ, List, length, slice_index, slice_index_or}

-- a number for each shard, none above the number of its batches
pub record CutBatches {X : Type 0} (batches : List (List X)) (commits : List ℕ) : Type 0 where
  pub lengths : length commits ≡ length batches
  pub within : (s : ℕ) (beyond : List X) → s < length batches → slice_index commits s ≤ length (slice_index_or batches s beyond)
