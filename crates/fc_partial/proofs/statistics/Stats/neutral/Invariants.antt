use Rattle.std.proofs.Common.{◌≡◌, [], map, take}
use Rattle.fc_spec.specs.requests.Statistics.{value_over}
use Rattle.fc_base.specs.StatisticView.{stat_view}
use Rattle.fc_partial.specs.View.{stat_value_view}
use Rattle.fc_partial.proofs.statistics.Stats.neutral.Given as goal

abbrev pub invariant-loop-stat : goal.invariant-loop-stat
invariant-loop-stat l = map stat_value_view l.values.items ≡ map (λ s. value_over s []) (map stat_view (take l.stat-index l.stats))
