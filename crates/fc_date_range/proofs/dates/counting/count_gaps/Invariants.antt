use Rattle.std.proofs.Common.{◌≡◌, ◌<◌, ◌&&◌, map}
use Rattle.std.specs.Prelude.{nat_le, nat_lt}
use Rattle.fc_spec.specs.requests.DateGaps.{in_date_gap}
use Rattle.fc_facet.specs.KindView.{date_range_view}
use Rattle.fc_partial.specs.View.{stat_value_view}
use Rattle.fc_count.specs.Counted.{HaveCounted}
use Rattle.fc_range.specs.Reached.{IsReached}
use Rattle.fc_date_range.proofs.dates.counting.count_gaps.Given as goal

abbrev pub invariant-loop-number : goal.invariant-loop-number
invariant-loop-number l = record {
  counted : HaveCounted (λ i. nat_le l.from i && (nat_lt i l.number && in_date_gap (date_range_view l.range) i l.date)) (map stat_value_view l.values) l.initial.cells l.cells;
  reached : IsReached (λ i. nat_le l.from i && (nat_lt i l.number && in_date_gap (date_range_view l.range) i l.date)) l.reached l.last;
  empty : l.to < l.from → l.number ≡ l.from;
}
