use Rattle.std.proofs.Common.{◌≡◌, map}
use Rattle.fc_script.specs.Gathered.{with_commit}
use Rattle.fc_script.specs.ShardView.{shard_view}
use Rattle.fc_script.proofs.ShardSteps.{committed_from}
use Rattle.fc_script.proofs.gather.shards.commit_all.Given as goal

abbrev pub invariant-loop-shard : goal.invariant-loop-shard
invariant-loop-shard l = committed_from l.shard-index (map shard_view l.shards) ≡ map with_commit (map shard_view l.initial.shards)
