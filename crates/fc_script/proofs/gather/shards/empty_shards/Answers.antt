use Rattle.std.proofs.Common.{◌∙◌, ◌-◌, ◌++◌, ◌+◌, map, replicate, ap}
use Rattle.fc_script.specs.Gathered.{empty_shard}
use Rattle.fc_script.specs.ShardView.{shard_view}
use Rattle.fc_script.proofs.ShardSteps.{replicate-next}
use Rattle.fc_script.proofs.gather.shards.empty_shards.Goals as goal

pub loop-preserved : goal.loop-preserved
loop-preserved c =
    ap (λ xs. map shard_view xs ++ replicate (c.args.count - (c.loop.counter + 1)) empty_shard) c.in_ok-push.ensures.items
    ∙ replicate-next shard_view c.loop.shards.items c.new.result empty_shard c.args.count c.loop.counter c.loop-test.true c.new.ensures
    ∙ c.loop.invariant
