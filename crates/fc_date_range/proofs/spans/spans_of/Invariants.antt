use Rattle.std.proofs.Common.{◌≡◌, ◌<◌, ℕ, length}
use Rattle.fc_spec.specs.requests.DateGaps.{low_date}
use Rattle.fc_facet.specs.KindView.{date_range_view}
use Rattle.fc_date_range.specs.GapSpans.{IsGapSpan, span_at}
use Rattle.fc_date_range.specs.HeldDates.{holds_low, is_from}
use Rattle.fc_date_range.specs.Spans.{IsFirst}
use Rattle.fc_date_range.proofs.spans.spans_of.Given as goal

abbrev pub invariant-loop-number : goal.invariant-loop-number
invariant-loop-number l = record {
  all : length l.spans.items ≡ l.number;
  each : (i : ℕ) → i < l.number → IsGapSpan l.column (date_range_view l.range) i (span_at l.spans.items i);
  from : IsFirst l.column (is_from (low_date (date_range_view l.range) l.number) (holds_low (date_range_view l.range) l.number)) l.from;
}
