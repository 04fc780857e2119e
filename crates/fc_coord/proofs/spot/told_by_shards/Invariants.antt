use Rattle.std.proofs.Common.{◌≡◌, ◌++◌, drop, map}
use Rattle.fc_partial.specs.StatsView.{stats_view}
use Rattle.fc_told.specs.TreeView.{tree_view}
use Rattle.fc_coord.specs.TreeReading.{told_on}
use Rattle.fc_coord.proofs.spot.told_by_shards.Given as goal

abbrev pub invariant-loop-shard : goal.invariant-loop-shard
invariant-loop-shard l = map (λ s. stats_view s.now) l.told.items ++ told_on (drop l.shard-index l.shards) (tree_view l.bucket) ≡ told_on l.shards (tree_view l.bucket)
