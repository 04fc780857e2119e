use Rattle.std.proofs.Common.{map, take}
use Rattle.std.specs.List.{list_any}
use Rattle.fc_facet.specs.KindView.{date_range_view}
use Rattle.fc_partial.specs.View.{stat_value_view}
use Rattle.fc_count.specs.Counted.{HaveCounted}
use Rattle.fc_range.specs.Reached.{IsReached}
use Rattle.fc_date_range.proofs.DateRows.{has_term}
use Rattle.fc_date_range.proofs.dates.GapDatesNumbering.count.Given as goal

abbrev pub invariant-loop-ord : goal.invariant-loop-ord
invariant-loop-ord l = record {
  counted : HaveCounted (λ i. list_any (has_term l.self.column.now (date_range_view l.self.range.now) i) (take l.ord-index l.ord-items)) (map stat_value_view l.values) l.initial.cells l.cells;
  reached : IsReached (λ i. list_any (has_term l.self.column.now (date_range_view l.self.range.now) i) (take l.ord-index l.ord-items)) 0 l.reached;
}
