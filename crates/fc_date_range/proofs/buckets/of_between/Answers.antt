use Rattle.std.proofs.Common.{◌≡◌, ◌<◌, [], true, get_or, sym, ap, ap₂, ◌∙◌, arith}
use Rattle.fc_spec.specs.requests.DateGaps.{date_gap_count, date_lies_in, is_before, last_date, low_date}
use Rattle.fc_facet.specs.KindView.{date_range_view}
use Rattle.fc_column.specs.Terms.{terms_of}
use Rattle.fc_date_range.proofs.BucketSpans.{between_span}
use Rattle.fc_date_range.proofs.Edges.{range_in_order}
use Rattle.fc_date_range.proofs.buckets.of_between.Goals as goal

pub returns-then-gaps-eq0 : goal.returns-then-gaps-eq0
returns-then-gaps-eq0 c = λ ord here.
    let g = date_range_view c.args.range.now in
    let none : 0 ≡ date_gap_count g = sym c.if-gaps-eq0.true ∙ c.gaps.ensures in
    let last : c.start_of-start.result.now ≡ last_date g = c.start_of-start.ensures ∙ ap (low_date g) none in
    c.at.ensures ord here ∙ (λ i. date_lies_in (c.start_of-start.ensures i) (c.holds_start.ensures i) (last i) (c.holds_end.ensures i) (get_or (terms_of c.args.column.now) ord []))

pub returns : goal.returns
returns c = λ ord here.
    let g = date_range_view c.args.range.now in
    let column = c.args.column.now in
    let count = c.gaps.ensures in
    let some : 0 < date_gap_count g = omega (arith, count, c.if-gaps-eq0.false) in
    let order : is_before c.start_of-start.result.now c.end_of.result.now ≡ true = ap₂ is_before c.start_of-start.ensures c.end_of.ensures ∙ range_in_order g c.requires some in
    between_span column c.start_of-start.result.now c.end_of.result.now c.holds_start-2.result c.holds_end-2.result c.between.result.from c.between.result.past order c.between.ensures ord here
    ∙ (λ i. date_lies_in (c.start_of-start.ensures i) (c.holds_start-2.ensures i) (c.end_of.ensures i) (c.holds_end-2.ensures i) (get_or (terms_of column) ord []))
