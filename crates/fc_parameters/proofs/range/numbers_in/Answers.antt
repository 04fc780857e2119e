use Rattle.std.proofs.Common.{◌≡◌, ◌≤ℤ◌, ◌<ℤ◌, [], ◌∙◌, sym, ap, pos, w64, FitsSigned, to_z, of_z, nat_le, arith, rules}
use Rattle.std.proofs.lemmas.Int.{ints, to_z-of_z}
use Rattle.serde_json.specs.View.{view, members_view}
use Rattle.fc_spec.specs.documents.IntegerTexts.{is_long}
use Rattle.fc_spec.specs.requests.FacetReading.{range_of}
use Rattle.fc_spec.specs.requests.Gaps.{gap_count, last_end}
use Rattle.fc_facet.specs.KindView.{range_view}
use Rattle.fc_parameters.specs.RangeParts.{words_behind}
use Rattle.fc_parameters.proofs.RangeNumbers.{numbers_read, not_below, below, at_most}
use Rattle.fc_parameters.proofs.range.numbers_in.Goals as goal

pub returns : goal.returns
returns c =
    let field = c.in_ok-field.field.0 in
    let start = c.in_ok-start.start in
    let end = c.in_ok-end.end in
    let gap = c.in_ok-gap.gap in
    let hardend = c.in_ok-hardend.hardend in
    let start_fits : FitsSigned w64 c.in_ok-start.start = search rules in
    let end_fits : FitsSigned w64 c.in_ok-end.end = search rules in
    let gap_fits : FitsSigned w64 c.in_ok-gap.gap = search rules in
    let view_is : range_view c.without_words-range.result ≡ range_of c.in_ok-field.field.0 c.in_ok-start.start c.in_ok-end.end c.in_ok-gap.gap c.in_ok-hardend.hardend [] [] =
    c.without_words-range.ensures.view
    ∙ ap (λ z. range_of field z (to_z w64 (of_z w64 end)) (to_z w64 (of_z w64 gap)) hardend [] []) (to_z-of_z w64 start start_fits)
    ∙ ap (λ z. range_of field start z (to_z w64 (of_z w64 gap)) hardend [] []) (to_z-of_z w64 end end_fits)
    ∙ ap (λ z. range_of field start end z hardend [] []) (to_z-of_z w64 gap gap_fits) in
    let ordered : c.in_ok-start.start ≤ℤ c.in_ok-end.end = omega (arith, ints) in
    let forward : pos 0 <ℤ c.in_ok-gap.gap = omega (arith, ints) in
    let long = ap (λ g. is_long (last_end g)) (sym view_is) ∙ sym c.has_long_end.ensures ∙ c.if-not-has_long_end.false in
    let few = at_most c.gap_count.result (gap_count (range_view c.without_words-range.result)) 10_000 c.gap_count.ensures.count c.if-gap_count-gt10000.false in
    numbers_read c.args.schema.now (members_view c.args.members.now.entries) (view c.in_ok-named.named.now) (view c.in_ok-first.first.now) (view c.in_ok-last.last.now) (view c.in_ok-step.step.now) field start end gap hardend
    c.in_ok-named.ensures c.in_ok-field.ensures.answer (sym c.holds_integers.ensures ∙ c.if-not-holds_integers.false)
    c.in_ok-first.ensures c.in_ok-start.ensures c.in_ok-last.ensures c.in_ok-end.ensures (not_below start end ordered)
    c.in_ok-step.ensures c.in_ok-gap.ensures (below (pos 0) gap forward) c.in_ok-hardend.ensures long (ap (λ g. nat_le (gap_count g) 10_000) (sym view_is) ∙ few)
    ∙ ap (words_behind (members_view c.args.members.now.entries)) (sym view_is)
