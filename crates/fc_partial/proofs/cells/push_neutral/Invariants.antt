use Rattle.std.proofs.Common.{◌≡◌, ◌++◌, [], map, drop}
use Rattle.fc_spec.specs.requests.Statistics.{stats_over}
use Rattle.fc_base.specs.StatisticView.{stat_view}
use Rattle.fc_partial.specs.View.{stat_value_view}
use Rattle.fc_partial.proofs.cells.push_neutral.Given as goal

abbrev pub invariant-loop-stat : goal.invariant-loop-stat
invariant-loop-stat l =
    map stat_value_view l.values.items ++ (stats_over (map stat_view (drop l.stat-index l.stats)) []).values
    ≡ map stat_value_view l.fn.values.items ++ (stats_over (map stat_view l.stats) []).values
