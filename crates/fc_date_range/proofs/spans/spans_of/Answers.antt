use Rattle.std.proofs.Common.{◌≡◌, ◌+◌, ◌<◌, ◌++◌, ◌∷◌, [], ℕ, List, sym, subst, ◌∙◌, arith, length-append}
use Rattle.fc_spec.specs.requests.DateGaps.{date_gap_count}
use Rattle.fc_facet.specs.KindView.{date_range_view}
use Rattle.fc_date_range.proofs.RisingSpans.{spans_rise}
use Rattle.fc_date_range.proofs.SpansSoFar.{one_more}
use Rattle.fc_date_range.specs.GapSpans.{IsGapSpan, span_at}
use Rattle.fc_date_range.specs.declared.span.Span.{Span}
use Rattle.fc_date_range.proofs.spans.spans_of.Goals as goal

pub loop-number-preserved : goal.loop-number-preserved
loop-number-preserved c =
    let column = c.args.column.now in
    let g = date_range_view c.args.range.now in
    let n = c.loop-number.number in
    let spans = c.loop-number.spans.items in
    let is : c.push.new.self.items ≡ spans ++ c.span_from-span.result ∷ [] = c.in_ok-push.ensures.items in
    record {
      all = let size = c.loop-number.invariant.all in let more = length-append spans (c.span_from-span.result ∷ []) in rw is (omega (arith, size, more));
      each = subst (λ (l : List Span). (i : ℕ) → i < n + 1 → IsGapSpan column g i (span_at l i)) (sym is) (one_more column g spans n c.span_from-span.result c.loop-number.invariant.all c.loop-number.invariant.each c.span_from-span.ensures);
      from = c.next_from-from.ensures;
    }

pub returns-clause-rise : goal.returns-clause-rise
returns-clause-rise c =
    let column = c.args.column.now in
    let g = date_range_view c.args.range.now in
    let n = c.loop-number.number in
    let count = c.gaps-number-end.ensures in
    let size = c.loop-number.invariant.all in
    spans_rise column g c.requires c.loop-number.spans.items (record {
      all = let all : n ≡ date_gap_count g = omega (arith, count) in size ∙ all;
      each = λ i here. c.loop-number.invariant.each i (omega (arith, size));
    })
