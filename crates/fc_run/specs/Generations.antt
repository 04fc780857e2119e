-- The generations that the searches of a phase use.
use Rattle.std.specs.Prelude.{ℕ, ◌≤◌, List, [], length, map, take, All}
use Rattle.std.specs.List.{zip}
use Rattle.fc_spec.specs.documents.Document.{Batch}
use Rattle.fc_spec.specs.documents.Operations.{after_ops}
use Rattle.fc_spec.specs.documents.Schema.{Schema}
use Rattle.fc_spec.specs.words.Lists.{joined}
use Rattle.fc_store.specs.Charters.{IsBatchOf}
use Rattle.fc_store.specs.Generated.{Generated}

-- the generation of a number, of a shard with these batches
abbrev pub generation_at : Schema → List Batch → ℕ → Generated
generation_at s batches n = record { schema = s; number = n; blocks = after_ops [] (joined (take n batches)) }

-- for each shard that of its number
abbrev pub generations_at : Schema → List (List Batch) → List ℕ → List Generated
generations_at s shards numbers = map (λ x. generation_at s x.0 x.1) (zip shards numbers)

-- the batches of a shard can be committed: they are of the schema, and no more than 4,096
pub record IsCommittable (s : Schema) (batches : List Batch) : Type 0 where
  pub valid : All (IsBatchOf s) batches
  pub few : length batches ≤ 4096

-- so can those of each shard
abbrev pub AreCommittable : Schema → List (List Batch) → Type 0
AreCommittable s shards = All (IsCommittable s) shards
