use Rattle.std.proofs.Common.{◌≡◌, ◌∙◌, map, sym, ap}
use Rattle.fc_spec.specs.documents.Columns.{column_of}
use Rattle.fc_spec.specs.documents.Totals.{documents_in}
use Rattle.fc_spec.specs.documents.Val.{text}
use Rattle.fc_facet.specs.KindView.{date_range_view}
use Rattle.fc_partial.specs.View.{key_view}
use Rattle.fc_segment.specs.Columns.{column_values}
use Rattle.fc_date_range.proofs.BucketRows.{bucket_rows}
use Rattle.fc_date_range.proofs.selecting.select_bucket.Goals as goal

pub returns-clause-set : goal.returns-clause-set
returns-clause-set c =
    let g = date_range_view c.args.range.now in
    let blocks = c.args.segment.now.blocks in
    let column : map (map text) c.in-Text.column ≡ column_of g.field (documents_in blocks) = ap column_values (sym c.in-Text.is) ∙ c.column.ensures.values in
    let span = c.span_of.result in
    c.select_in_span.ensures.set ∙ bucket_rows g (key_view c.args.key.now) c.in-Text.column span.from span.past c.span_of.ensures blocks c.args.docs.now column
