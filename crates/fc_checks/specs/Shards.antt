-- The batches of a shard of a script that was read.
use Rattle.std.specs.Prelude.{◌≤◌, List, [], ◌∷◌, length, map, All}
use Rattle.fc_spec.specs.documents.Document.{Batch}
use Rattle.fc_spec.specs.documents.Operations.{after_ops, blocks_added}
use Rattle.fc_spec.specs.documents.Schema.{Schema}
use Rattle.fc_spec.specs.documents.World.{World}
use Rattle.fc_spec.specs.scripts.WorldLimits.{IsWithinLimits}
use Rattle.fc_spec.specs.words.Lists.{joined}
use Rattle.fc_store.specs.Charters.{IsBatchOf}

-- they can be committed, each by itself or all together
pub record IsShardOf (s : Schema) (batches : List Batch) : Type 0 where
  pub each : All (IsBatchOf s) batches
  pub few : length batches ≤ 4096
  pub limits : IsWithinLimits (blocks_added (joined batches) ∷ [])

-- what the batches of each shard leave
abbrev pub world_left : List (List Batch) → World
world_left shards = map (λ batches. after_ops [] (joined batches)) shards
