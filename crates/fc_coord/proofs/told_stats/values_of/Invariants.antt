use Rattle.std.proofs.Common.{◌≡◌, ◌++◌, drop, map}
use Rattle.std.specs.List.{enumerate_from}
use Rattle.fc_base.specs.StatisticView.{stat_view}
use Rattle.fc_partial.specs.StatsView.{stats_view}
use Rattle.fc_partial.specs.View.{stat_value_view}
use Rattle.fc_coord.specs.TreeReading as trees
use Rattle.fc_coord.proofs.told_stats.values_of.Given as goal

abbrev pub invariant-loop-number : goal.invariant-loop-number
invariant-loop-number l =
    map stat_value_view l.values.items ++ map (λ s. trees.values_of s.0 s.1 (map (λ t. stats_view t.now) l.told)) (enumerate_from l.number (map stat_view (drop l.number l.stats)))
    ≡ map (λ s. trees.values_of s.0 s.1 (map (λ t. stats_view t.now) l.told)) (enumerate_from 0 (map stat_view l.stats))
