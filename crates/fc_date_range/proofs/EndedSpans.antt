-- The spans that end before an ordinal or at it.
use Rattle.std.proofs.Common.{◌≡◌, ◌<◌, ◌≤◌, ℕ, true, false, List, length, nat_le, ap, arith}
use Rattle.std.specs.List.{AllWithin}
use Rattle.std.specs.List.Sorted.{IsNonDecreasingBy}
use Rattle.std.proofs.lemmas.Bool.Decides.{nat_tests}
use Rattle.std.proofs.lemmas.List.{get_or_default}
use Rattle.fc_date_range.proofs.Tests.{is_from}
use Rattle.fc_date_range.specs.GapSpans.{Rise, no_span, span_at}
use Rattle.fc_date_range.specs.declared.span.Span.{Span}

module _ (spans : List Span) where
  pub past_in_order : Rise spans → IsNonDecreasingBy (λ (span : Span). span.past) spans
  past_in_order rise = λ i j d order inside.
      let first = ap (λ (s : Span). s.past) (get_or_default spans i d no_span (omega arith)) in
      let second = ap (λ (s : Span). s.past) (get_or_default spans j d no_span inside) in
      let more = rise.past i j order inside in
      omega (arith, first, second, more)

  pub ended_from : (ord point : ℕ) → point ≤ length spans → AllWithin (λ (span : Span). nat_le span.past ord ≡ true) spans 0 point → (i : ℕ) → i < point → (span_at spans i).past ≤ ord
  ended_from ord point within front i before = is_from (span_at spans i).past ord (front i no_span (omega arith) before)

  not_from : (m i : ℕ) → nat_le m i ≡ false → i < m
  not_from m i e = grind (arith, nat_tests)

  pub left_from : (ord point : ℕ) → AllWithin (λ (span : Span). nat_le span.past ord ≡ false) spans point (length spans) → (i : ℕ) → point ≤ i → i < length spans → ord < (span_at spans i).past
  left_from ord point rest i from there = not_from (span_at spans i).past ord (rest i no_span from there)
