use Rattle.std.proofs.Common.{◌≡◌, ◌++◌, map}
use Rattle.fc_script.specs.PartsView.{batches_view}
use Rattle.fc_script.proofs.gather.shards.batches.Given as goal

abbrev pub invariant-loop-shard : goal.invariant-loop-shard
invariant-loop-shard l =
    map (λ b. batches_view b.items) l.batches.items ++ map (λ x. batches_view x.batches.items) l.shard-iterator.rest.items
    ≡ map (λ x. batches_view x.batches.items) l.fn.shards.items
