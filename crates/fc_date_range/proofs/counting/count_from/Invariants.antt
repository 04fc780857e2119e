use Rattle.std.proofs.Common.{ℕ, ◌<◌, ◌≤◌, ◌&&◌, map}
use Rattle.std.specs.Prelude.{nat_le, nat_lt}
use Rattle.fc_partial.specs.View.{stat_value_view}
use Rattle.fc_count.specs.Counted.{HaveCounted}
use Rattle.fc_date_range.specs.GapSpans.{span_at}
use Rattle.fc_date_range.proofs.counting.count_from.Given as goal

abbrev pub invariant-loop-number : goal.invariant-loop-number
invariant-loop-number l = record {
  counted : HaveCounted (λ i. nat_le l.start i && nat_lt i l.number) (map stat_value_view l.values) l.initial.cells l.cells;
  begun : (i : ℕ) → l.start ≤ i → i < l.number → (span_at l.spans i).from ≤ l.ord;
}
