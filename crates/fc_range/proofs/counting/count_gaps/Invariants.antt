use Rattle.std.proofs.Common.{◌≡◌, ◌<◌, ◌&&◌, map}
use Rattle.std.specs.Prelude.{nat_le, nat_lt}
use Rattle.fc_spec.specs.requests.Gaps.{in_gap}
use Rattle.fc_facet.specs.KindView.{range_view}
use Rattle.fc_partial.specs.View.{stat_value_view}
use Rattle.fc_count.specs.Counted.{HaveCounted}
use Rattle.fc_range.specs.Reached.{IsReached}
use Rattle.fc_range.proofs.counting.count_gaps.Given as goal

abbrev pub invariant-loop-number : goal.invariant-loop-number
invariant-loop-number l = record {
  counted : HaveCounted (λ i. nat_le l.from i && (nat_lt i l.number && in_gap (range_view l.range) i l.x)) (map stat_value_view l.values) l.initial.cells l.cells;
  reached : IsReached (λ i. nat_le l.from i && (nat_lt i l.number && in_gap (range_view l.range) i l.x)) l.reached l.last;
  empty : l.to < l.from → l.number ≡ l.from;
}
