use Rattle.std.proofs.Common.{◌≡◌, ◌++◌, ◌-◌, [], map}
use Rattle.fc_spec.specs.requests.Statistics.{stats_over}
use Rattle.fc_base.specs.StatisticView.{stat_view}
use Rattle.fc_partial.specs.View.{stat_value_view}
use Rattle.fc_partial.proofs.NeutralCells.{copies}
use Rattle.fc_partial.proofs.cells.Cells.new.Given as goal

abbrev pub invariant-loop-number : goal.invariant-loop-number
invariant-loop-number l =
    map stat_value_view l.values.items ++ copies (l.bound - l._number) (stats_over (map stat_view l.stats.items) []).values
    ≡ copies l.bound (stats_over (map stat_view l.stats.items) []).values
