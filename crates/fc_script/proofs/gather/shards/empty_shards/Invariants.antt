use Rattle.std.proofs.Common.{◌≡◌, ◌-◌, ◌++◌, map, replicate}
use Rattle.fc_script.specs.Gathered.{empty_shard}
use Rattle.fc_script.specs.ShardView.{shard_view}
use Rattle.fc_script.proofs.gather.shards.empty_shards.Given as goal

abbrev pub invariant-loop : goal.invariant-loop
invariant-loop l = map shard_view l.shards.items ++ replicate (l.count - l.counter) empty_shard ≡ replicate l.count empty_shard
