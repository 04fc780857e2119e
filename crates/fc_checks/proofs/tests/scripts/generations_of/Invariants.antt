use Rattle.std.proofs.Common.{◌≡◌, ◌++◌, map, All}
use Rattle.std.specs.Arc.{arc_value}
use Rattle.fc_run.specs.Searches.{shards_view}
use Rattle.fc_round.specs.Askable.{world_of}
use Rattle.fc_checks.specs.Shards.{IsShardOf, world_left}
use Rattle.fc_checks.proofs.tests.scripts.generations_of.Given as goal

-- the generations so far are of the schema, and with the shards that are left they make the whole world
abbrev pub invariant-loop-batches : goal.invariant-loop-batches
invariant-loop-batches l = record {
  shards : All (IsShardOf (arc_value l.schema)) (shards_view l.batches-iterator.rest.items);
  schema : All (λ generation. generation.schema ≡ arc_value l.schema) (map arc_value l.all.items);
  world : world_of (map arc_value l.all.items) ++ world_left (shards_view l.batches-iterator.rest.items) ≡ world_left (shards_view l.fn.shards.items);
}
