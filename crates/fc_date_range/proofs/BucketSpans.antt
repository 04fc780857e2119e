-- The spans of buckets.
use Rattle.std.proofs.Common.{◌≡◌, ◌<◌, ℕ, Bool, true, false, not, ◌&&◌, ◌||◌, List, [], length, get_or, nat_le, refl, sym, ap, ap₂, ◌∙◌, arith}
use Rattle.std.specs.Prelude.{nat_lt}
use Rattle.std.specs.Ordering.{is_le}
use Rattle.std.proofs.Math.Bool.{and-true, and_comm, not-not}
use Rattle.fc_spec.specs.documents.Val.{Text, same_text, text_cmp}
use Rattle.fc_spec.specs.requests.DateGaps.{date_gap_count, date_lies_in, high_date, in_date_gap, in_dates_after, in_dates_before, is_before, last_date, low_date}
use Rattle.fc_spec.specs.requests.Request.{DateRange}
use Rattle.fc_facet.specs.RangeGaps.{HasFewEdges}
use Rattle.fc_column.specs.Terms.{terms_below, terms_of, terms_up_to}
use Rattle.fc_domain.proofs.TextOrder.{le_both_ways, lt-not_le}
use Rattle.fc_date_range.proofs.Edges.{ends_in_order}
use Rattle.fc_date_range.proofs.FirstTerms.{from_below, from_up_to}
use Rattle.fc_date_range.proofs.HeldDates.{lies_at, lies_both, same_turned}
use Rattle.fc_range.proofs.Tests.{below_is, from_is}
use Rattle.fc_date_range.proofs.Tests.{below_not}
use Rattle.fc_date_range.specs.GapSpans.{IsGapSpan}
use Rattle.fc_date_range.specs.HeldDates.{holds_high, holds_low, is_from, is_to}
use Rattle.fc_date_range.specs.Spans.{IsBetween, IsFirst, IsSpanOf, in_span}
use Rattle.fc_date_range.specs.declared.span.Span.{Span}

module _ (column : List (List Text)) where
  -- between two ends of which one is before the other
  pub between_span : (low high : Text) (with_low with_high : Bool) (from past : ℕ) → is_before low high ≡ true → IsBetween column low with_low high with_high from past
      → IsSpanOf column (date_lies_in low with_low high with_high) from past
  between_span low high with_low with_high from past order ends = λ ord here.
      let t = get_or (terms_of column) ord [] in
      ap₂ (λ a b. a && b) (ends.first.exact ord here) (below_not ord past ∙ ap not (ends.behind.exact ord here) ∙ not-not (is_to high with_high t))
      ∙ sym (lies_both low high t order with_low with_high)

  -- of a gap
  pub gap_span : (g : DateRange) → HasFewEdges g → (i : ℕ) → i < date_gap_count g → (span : Span) → IsGapSpan column g i span → IsSpanOf column (in_date_gap g i) span.from span.past
  gap_span g few i there span is = between_span (low_date g i) (high_date g i) (holds_low g i) (holds_high g i) span.from span.past (ends_in_order g few i there) is

  -- before the start, and after the last high end
  pub before_span : (g : DateRange) (held : Bool) (past : ℕ) → held ≡ (g.outer || not (g.lower || g.edge)) → IsFirst column (λ t. not (is_to (low_date g 0) held t)) past
      → IsSpanOf column (in_dates_before g) 0 past
  before_span g held past e behind = λ ord here.
      let t = get_or (terms_of column) ord [] in
      let low = low_date g 0 in
      ap (λ b. b && nat_lt ord past) (from_is 0 ord (omega arith)) ∙ below_not ord past ∙ ap not (behind.exact ord here) ∙ not-not (is_to low held t)
      ∙ ap (λ b. is_before t low || b) (and_comm held (same_text t low) ∙ ap (λ b. same_text t low && b) e)

  pub after_span : (g : DateRange) (held : Bool) (from : ℕ) → held ≡ (g.outer || not (g.upper || g.edge)) → IsFirst column (is_from (last_date g) held) from
      → IsSpanOf column (in_dates_after g) from (length (terms_of column))
  after_span g held from e first = λ ord here.
      let t = get_or (terms_of column) ord [] in
      let last = last_date g in
      ap₂ (λ a b. a && b) (first.exact ord here) (below_is ord (length (terms_of column)) here) ∙ and-true (is_from last held t)
      ∙ ap (λ b. is_before last t || b) (and_comm held (same_text t last) ∙ ap (λ b. same_text t last && b) e)

  -- a date alone, and none
  pub date_span : (date : Text) (with_low with_high : Bool) (from past : ℕ) → (with_low || with_high) ≡ true → from ≡ terms_below column date → past ≡ terms_up_to column date
      → IsSpanOf column (date_lies_in date with_low date with_high) from past
  date_span date with_low with_high from past held first behind = λ ord here.
      let t = get_or (terms_of column) ord [] in
      ap₂ (λ a b. a && b) (ap (λ n. nat_le n ord) first ∙ from_below column date ord here)
      (below_not ord past ∙ ap (λ n. not (nat_le n ord)) behind ∙ ap not (from_up_to column date ord here) ∙ ap not (lt-not_le date t) ∙ not-not (is_le (text_cmp t date)))
      ∙ le_both_ways date t ∙ same_turned date t ∙ sym (lies_at date t with_low with_high ∙ ap (λ b. b && same_text t date) held)

  pub empty_span : (date : Text) (with_low with_high : Bool) (from past : ℕ) → (with_low || with_high) ≡ false → from ≡ past → IsSpanOf column (date_lies_in date with_low date with_high) from past
  empty_span date with_low with_high from past left same = λ ord here.
      let t = get_or (terms_of column) ord [] in
      ap (λ n. in_span from n ord) (sym same) ∙ ap (λ b. nat_le from ord && b) (below_not ord from) ∙ apart (nat_le from ord)
      ∙ sym (lies_at date t with_low with_high ∙ ap (λ b. b && same_text t date) left)
    where
      apart : (b : Bool) → (b && not b) ≡ false
      apart true = refl
      apart false = refl
