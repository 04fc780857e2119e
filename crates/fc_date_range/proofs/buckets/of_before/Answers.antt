use Rattle.std.proofs.Common.{not, subst}
use Rattle.fc_spec.specs.documents.Val.{Text}
use Rattle.fc_facet.specs.KindView.{date_range_view}
use Rattle.fc_date_range.proofs.BucketSpans.{before_span}
use Rattle.fc_date_range.specs.HeldDates.{is_to}
use Rattle.fc_date_range.specs.Spans.{IsFirst}
use Rattle.fc_date_range.proofs.buckets.of_before.Goals as goal

pub returns : goal.returns
returns c =
    let column = c.args.column.now in
    let held = c.is_start_before.result in
    before_span column (date_range_view c.args.range.now) held c.first_behind.result c.is_start_before.ensures
    (subst (λ (date : Text). IsFirst column (λ t. not (is_to date held t)) c.first_behind.result) c.start_of.ensures c.first_behind.ensures)
