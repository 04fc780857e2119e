use Rattle.std.proofs.Common.{map, take}
use Rattle.std.specs.List.{list_any}
use Rattle.fc_facet.specs.KindView.{range_view}
use Rattle.fc_partial.specs.View.{stat_value_view}
use Rattle.fc_count.specs.Counted.{HaveCounted}
use Rattle.fc_range.specs.Reached.{IsReached, is_held}
use Rattle.fc_range.proofs.counting.GapNumbersNumbering.count.Given as goal

abbrev pub invariant-loop-x : goal.invariant-loop-x
invariant-loop-x l = record {
  counted : HaveCounted (λ i. list_any (λ x. is_held (range_view l.self.range.now) x i) (take l.x-index l.x-items)) (map stat_value_view l.values) l.initial.cells l.cells;
  reached : IsReached (λ i. list_any (λ x. is_held (range_view l.self.range.now) x i) (take l.x-index l.x-items)) 0 l.reached;
}
