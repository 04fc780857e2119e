use Rattle.std.proofs.Common.{◌<◌, sym, subst}
use Rattle.std.specs.Bool.{IsTrue}
use Rattle.fc_spec.specs.requests.Buckets.{holds_date, is_date_range_key}
use Rattle.fc_spec.specs.requests.DateGaps.{date_gap_count}
use Rattle.fc_facet.specs.KindView.{date_range_view}
use Rattle.fc_partial.specs.View.{key_view}
use Rattle.fc_partial.specs.declared.key.Key.{Key}
use Rattle.fc_date_range.proofs.BucketSpans.{gap_span}
use Rattle.fc_range.proofs.Tests.{is_below}
use Rattle.fc_date_range.specs.Spans.{IsSpanOf}
use Rattle.fc_date_range.proofs.buckets.span_of.Goals as goal

pub returns-in-Gap : goal.returns-in-Gap
returns-in-Gap c =
    let g = date_range_view c.args.range.now in
    let column = c.args.column.now in
    let n = c.in-Gap.number in
    let span = c.of_gap.result in
    let there : n < date_gap_count g = is_below n (date_gap_count g) (subst (λ (k : Key). IsTrue (is_date_range_key g (key_view k))) c.in-Gap.is c.requires.key) in
    subst (λ (k : Key). IsSpanOf column (holds_date g (key_view k)) span.from span.past) (sym c.in-Gap.is) (gap_span column g c.requires.few n there span c.of_gap.ensures)
