use Rattle.fc_script.specs.Gathered.{with_commit}
use Rattle.fc_script.specs.ShardView.{shard_view}
use Rattle.fc_script.proofs.ShardSteps.{changed, on_ok}
use Rattle.fc_script.proofs.gather.shards.commit_one.Goals as goal

pub returns-clause-shards : goal.returns-clause-shards
returns-clause-shards c =
    on_ok c.commit.result _ _ (λ step. changed shard_view with_commit c.args.shards.now c.args.shard c.index-shards-shard.result c.commit.new.self c.requires step) c.commit.ensures
