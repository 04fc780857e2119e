-- The spans of gaps rise.
use Rattle.std.proofs.Common.{◌≡◌, ◌+◌, ◌<◌, ◌≤◌, ℕ, not, List, length, ap, arith, inl, inr}
use Rattle.std.proofs.lemmas.Bool.{cases_lt}
use Rattle.fc_spec.specs.documents.Val.{Text}
use Rattle.fc_spec.specs.requests.DateGaps.{high_date, low_date}
use Rattle.fc_spec.specs.requests.Request.{DateRange}
use Rattle.fc_facet.specs.RangeGaps.{HasFewEdges}
use Rattle.fc_date_range.proofs.Edges.{edge_before}
use Rattle.fc_date_range.proofs.FirstTerms.{first_rises}
use Rattle.fc_date_range.proofs.HeldDates.{from_earlier, not_to_earlier}
use Rattle.fc_date_range.specs.GapSpans.{AreGapSpans, Rise, span_at}
use Rattle.fc_date_range.specs.HeldDates.{holds_high, holds_low, is_from, is_to}
use Rattle.fc_date_range.specs.declared.span.Span.{Span}

module _ (column : List (List Text)) (g : DateRange) (few : HasFewEdges g) (spans : List Span) (are : AreGapSpans column g spans) where
  begin_in_order : (i j : ℕ) → i < j → j < length spans → (span_at spans i).from ≤ (span_at spans j).from
  begin_in_order i j order inside =
      let all = are.all in
      first_rises column (is_from (low_date g i) (holds_low g i)) (is_from (low_date g j) (holds_low g j)) (span_at spans i).from (span_at spans j).from
      (are.each i (omega arith)).first (are.each j inside).first
      (λ t. from_earlier (low_date g i) (low_date g j) (holds_low g i) (holds_low g j) t (edge_before g few i j order (omega (arith, all))))

  end_in_order : (i j : ℕ) → i < j → j < length spans → (span_at spans i).past ≤ (span_at spans j).past
  end_in_order i j order inside =
      let all = are.all in
      first_rises column (λ t. not (is_to (high_date g i) (holds_high g i) t)) (λ t. not (is_to (high_date g j) (holds_high g j) t)) (span_at spans i).past (span_at spans j).past
      (are.each i (omega arith)).behind (are.each j inside).behind
      (λ t. not_to_earlier (high_date g i) (high_date g j) (holds_high g i) (holds_high g j) t (edge_before g few (i + 1) (j + 1) (omega arith) (omega (arith, all))))

  pub spans_rise : Rise spans
  spans_rise = record {
    from = λ i j order inside. elim (cases_lt i j) [
      | inl before ↦ begin_in_order i j before inside
      | inr same ↦ let e : i ≡ j = omega arith in let is = ap (λ n. (span_at spans n).from) e in omega (arith, is)
    ];
    past = λ i j order inside. elim (cases_lt i j) [
      | inl before ↦ end_in_order i j before inside
      | inr same ↦ let e : i ≡ j = omega arith in let is = ap (λ n. (span_at spans n).past) e in omega (arith, is)
    ];
  }
