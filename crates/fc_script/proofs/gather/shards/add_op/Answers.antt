use Rattle.fc_docs.specs.View.{op_view}
use Rattle.fc_script.specs.Gathered.{with_op}
use Rattle.fc_script.specs.ShardView.{shard_view}
use Rattle.fc_script.proofs.ShardSteps.{changed, on_ok}
use Rattle.fc_script.proofs.gather.shards.add_op.Goals as goal

pub returns-clause-shards : goal.returns-clause-shards
returns-clause-shards c =
    on_ok c.add.result _ _ (λ step. changed shard_view (with_op (op_view c.args.op)) c.args.shards.now c.args.shard c.index-shards-shard.result c.add.new.self c.requires step) c.add.ensures
