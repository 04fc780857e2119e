-- The worlds that the first batches of each shard leave, and numbers between others. Guide: SolrCloud Shards and Indexing; Commits and Transaction Logs.
use Rattle.std.specs.Prelude.{◌≡◌, ℕ, ◌≤◌, List, [], length, map, take, slice_index}
use Rattle.std.specs.List.{zip}
use Rattle.fc_spec.specs.documents.Document.{Batch}
use Rattle.fc_spec.specs.documents.Operations.{after_ops, blocks_added}
use Rattle.fc_spec.specs.documents.World.{World}
use Rattle.fc_spec.specs.words.Lists.{joined}

-- for each shard what the operations of its first batches leave, as many batches as its number
abbrev pub world_at : List (List Batch) → List ℕ → World
world_at shards numbers = map (λ x. after_ops [] (joined (take x.1 x.0))) (zip shards numbers)

-- for each shard all that its batches add, left or not
abbrev pub world_added : List (List Batch) → World
world_added shards = map (λ batches. blocks_added (joined batches)) shards

-- one number per shard, none below that of one list and none above that of another
pub record AreBetween (low high g : List ℕ) : Type 0 where
  pub count : length g ≡ length high
  pub above : (s : ℕ) → slice_index low s ≤ slice_index g s
  pub below : (s : ℕ) → slice_index g s ≤ slice_index high s
