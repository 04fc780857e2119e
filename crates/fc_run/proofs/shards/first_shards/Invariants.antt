use Rattle.std.proofs.Common.{◌≡◌, ◌++◌, map}
use Rattle.std.specs.Arc.{arc_value}
use Rattle.fc_run.specs.Searches.{lists_in}
use Rattle.fc_run.specs.Progress.{all_progress_at, progress_of}
use Rattle.fc_run.proofs.shards.first_shards.Given as goal

abbrev pub invariant-loop-shard : goal.invariant-loop-shard
invariant-loop-shard l =
    map progress_of l.first.items ++ all_progress_at (arc_value l.schema) (lists_in l.shard-iterator.rest.items) (map (λ shard. 0) l.shard-iterator.rest.items)
    ≡ all_progress_at (arc_value l.schema) (lists_in l.fn.batches.items) (map (λ shard. 0) l.fn.batches.items)
