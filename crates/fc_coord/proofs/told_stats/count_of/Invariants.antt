use Rattle.std.proofs.Common.{◌≡◌, ◌+◌, drop, map}
use Rattle.fc_partial.specs.StatsView.{stats_view}
use Rattle.fc_coord.specs.TreeReading.{counts_of}
use Rattle.fc_coord.proofs.told_stats.count_of.Given as goal

abbrev pub invariant-loop-stats : goal.invariant-loop-stats
invariant-loop-stats l = l.count + counts_of (map (λ s. stats_view s.now) (drop l.stats-index l.told)) ≡ counts_of (map (λ s. stats_view s.now) l.told)
