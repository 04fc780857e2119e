-- The spans of the gaps of a range facet over dates, in a column.
use Rattle.std.specs.Prelude.{◌≡◌, ℕ, ◌<◌, ◌≤◌, List, [], length, slice_index_or, Bool, All}
use Rattle.fc_spec.specs.documents.Val.{Text}
use Rattle.fc_spec.specs.requests.DateGaps.{date_gap_count, high_date, low_date}
use Rattle.fc_spec.specs.requests.Request.{DateRange}
use Rattle.fc_column.specs.Terms.{has_from_to, ordinals_in}
use Rattle.fc_date_range.specs.declared.span.Span.{Span}
use Rattle.fc_date_range.specs.HeldDates.{holds_high, holds_low}
use Rattle.fc_date_range.specs.Spans.{IsBetween, in_span}

-- the empty span
abbrev pub no_span : Span
no_span = record { from = 0; past = 0 }

-- the span of a number, which is empty where there is none
abbrev pub span_at : List Span → ℕ → Span
span_at spans i = slice_index_or spans i no_span

-- an ordinal lies in the span of a number
abbrev pub is_held : List Span → (ord : ℕ) → (i : ℕ) → Bool
is_held spans ord i = in_span (span_at spans i).from (span_at spans i).past ord

-- a position has a text in the span of a number
abbrev pub has_in_span : (column : List (List Text)) → List Span → (at i : ℕ) → Bool
has_in_span column spans at i = has_from_to (span_at spans i).from (span_at spans i).past (ordinals_in column (slice_index_or column at []))

-- no span begins or ends before an earlier one does
pub record Rise (spans : List Span) : Type 0 where
  pub from : (i j : ℕ) → i ≤ j → j < length spans → (span_at spans i).from ≤ (span_at spans j).from
  pub past : (i j : ℕ) → i ≤ j → j < length spans → (span_at spans i).past ≤ (span_at spans j).past

-- the span of a gap, from end to end
abbrev pub IsGapSpan : (column : List (List Text)) → DateRange → ℕ → Span → Type 0
IsGapSpan column g i span = IsBetween column (low_date g i) (holds_low g i) (high_date g i) (holds_high g i) span.from span.past

-- there is one for each gap, in their order
pub record AreGapSpans (column : List (List Text)) (g : DateRange) (spans : List Span) : Type 0 where
  pub all : length spans ≡ date_gap_count g
  pub each : (i : ℕ) → i < length spans → IsGapSpan column g i (span_at spans i)

-- a number has a span, and no position has several texts
pub record HasList (column : List (List Text)) (spans : List Span) (i : ℕ) : Type 0 where
  pub there : i < length spans
  pub single : All (λ texts. length texts ≤ 1) column
