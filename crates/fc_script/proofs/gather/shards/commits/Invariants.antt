use Rattle.std.proofs.Common.{◌≡◌, ◌++◌, drop, length, map}
use Rattle.fc_script.proofs.gather.shards.commits.Given as goal

abbrev pub invariant-loop-shard : goal.invariant-loop-shard
invariant-loop-shard l = l.commits.items ++ map (λ x. length x.batches.items) (drop l.shard-index l.shards) ≡ map (λ x. length x.batches.items) l.shards
