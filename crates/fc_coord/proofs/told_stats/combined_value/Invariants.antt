use Rattle.std.proofs.Common.{◌≡◌, drop, map}
use Rattle.fc_base.specs.StatisticView.{stat_view}
use Rattle.fc_partial.specs.StatsView.{stats_view}
use Rattle.fc_partial.specs.View.{stat_value_view}
use Rattle.fc_coord.specs.TreeReading.{values_of}
use Rattle.fc_coord.proofs.told_stats.combined_value.Given as goal

abbrev pub invariant-loop-at : goal.invariant-loop-at
invariant-loop-at l = stat_value_view l.value ≡ values_of l.number (stat_view l.stat) (drop l.at (map (λ s. stats_view s.now) l.told))
