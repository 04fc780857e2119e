-- The batches of the shards of a script that was read.
use Rattle.std.specs.Prelude.{List, map, Vec}
use Rattle.std.specs.declared.alloc.Global.{Global}
use Rattle.fc_spec.specs.documents.Document as documents
use Rattle.fc_docs.specs.declared.block.Batch.{Batch}
use Rattle.fc_script.specs.PartsView.{batches_view}

-- the batches of a shard
abbrev pub Shard : Type 0
Shard = Vec Batch Global

abbrev pub lists_in : List Shard → List (List Batch)
lists_in shards = map (λ shard. shard.items) shards

abbrev pub shards_view : List Shard → List (List documents.Batch)
shards_view shards = map (λ shard. batches_view shard.items) shards
