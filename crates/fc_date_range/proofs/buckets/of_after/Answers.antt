use Rattle.std.proofs.Common.{ℕ, sym, subst}
use Rattle.fc_spec.specs.documents.Val.{Text}
use Rattle.fc_spec.specs.requests.DateGaps.{in_dates_after}
use Rattle.fc_facet.specs.KindView.{date_range_view}
use Rattle.fc_date_range.proofs.BucketSpans.{after_span}
use Rattle.fc_date_range.specs.HeldDates.{is_from}
use Rattle.fc_date_range.specs.Spans.{IsFirst, IsSpanOf}
use Rattle.fc_date_range.proofs.buckets.of_after.Goals as goal

pub returns : goal.returns
returns c =
    let column = c.args.column.now in
    let g = date_range_view c.args.range.now in
    let held = c.is_end_after.result in
    subst (λ (n : ℕ). IsSpanOf column (in_dates_after g) c.first_from.result n) (sym c.terms.ensures)
    (after_span column g held c.first_from.result c.is_end_after.ensures
    (subst (λ (date : Text). IsFirst column (is_from date held) c.first_from.result) c.end_of.ensures c.first_from.ensures))
