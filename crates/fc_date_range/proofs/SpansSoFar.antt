-- The spans of gaps, one behind another.
use Rattle.std.proofs.Common.{◌≡◌, ◌+◌, ◌<◌, ℕ, List, [], ◌∷◌, ◌++◌, length, sym, ap, subst, ◌∙◌, arith, add-zero, below_more}
use Rattle.std.proofs.lemmas.List.{get_or-append-add, get_or_append_left}
use Rattle.fc_spec.specs.documents.Val.{Text}
use Rattle.fc_spec.specs.requests.Request.{DateRange}
use Rattle.fc_date_range.specs.GapSpans.{IsGapSpan, no_span, span_at}
use Rattle.fc_date_range.specs.declared.span.Span.{Span}

module _ (column : List (List Text)) (g : DateRange) (spans : List Span) (n : ℕ) (span : Span) (size : length spans ≡ n) where
  at_end : span_at (spans ++ span ∷ []) n ≡ span
  at_end = ap (span_at (spans ++ span ∷ [])) (sym size ∙ sym (add-zero (length spans))) ∙ get_or-append-add spans (span ∷ []) 0 no_span

  pub one_more : ((i : ℕ) → i < n → IsGapSpan column g i (span_at spans i)) → IsGapSpan column g n span → (i : ℕ) → i < n + 1 → IsGapSpan column g i (span_at (spans ++ span ∷ []) i)
  one_more each here =
      below_more (λ i. IsGapSpan column g i (span_at (spans ++ span ∷ []) i)) n
      (λ i below. subst (IsGapSpan column g i) (sym (get_or_append_left spans (span ∷ []) no_span i (omega (arith, size)))) (each i below))
      (subst (IsGapSpan column g n) (sym at_end) here)
