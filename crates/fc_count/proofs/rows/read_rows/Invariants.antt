use Rattle.std.proofs.Common.{◌≡◌, map, take}
use Rattle.fc_base.specs.StatisticView.{stat_view}
use Rattle.fc_partial.specs.View.{stat_value_view}
use Rattle.fc_count.specs.Rows.{values_at}
use Rattle.fc_count.proofs.rows.read_rows.Given as goal

abbrev pub invariant-loop-at : goal.invariant-loop-at
invariant-loop-at l = map stat_value_view l.rows.items ≡ values_at l.segment.blocks (map stat_view l.stats) (take l.at-index l.positions)
