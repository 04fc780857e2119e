use Rattle.std.proofs.Common.{◌≡◌, ◌∙◌, ◌<◌, ◌++◌, true, false, length, get_or, ap, ap₂, sym, arith}
use Rattle.std.specs.Arc.{arc_value}
use Rattle.std.specs.List.{items_where_true}
use Rattle.std.proofs.lemmas.List.{length-map}
use Rattle.fc_spec.specs.documents.Columns.{column_of}
use Rattle.fc_spec.specs.documents.Document.{values_of}
use Rattle.fc_spec.specs.documents.Totals.{documents_in}
use Rattle.fc_spec.proofs.documents.LiveBlocks.{length-live}
use Rattle.fc_segment.specs.Segmented.{Segmented}
use Rattle.fc_segment.proofs.MergedParts.{holds_here, values_more}
use Rattle.fc_segment.proofs.merged_columns.merged_texts.Goals as goal

pub column-requires : goal.column-requires
column-requires c =
    let held = holds_here arc_value c.args.segments.now c.loop-segment.segment-index c.segment-item.result c.loop-segment-test.true c.segment-item.is (λ (s : Segmented). c.args.field.0 < length s.texts) c.requires.fields in
    omega (arith, held, ap (λ (s : Segmented). length s.texts) c.deref.ensures)

pub with_texts-requires-clause-kind : goal.with_texts-requires-clause-kind
with_texts-requires-clause-kind c =
    c.column.ensures.kind ∙ ap (λ (s : Segmented). get_or s.texts c.args.field.0 false) c.deref.ensures
    ∙ holds_here arc_value c.args.segments.now c.loop-segment.segment-index c.segment-item.result c.loop-segment-test.true c.segment-item.is (λ (s : Segmented). get_or s.texts c.args.field.0 false ≡ true) c.requires.kinds

pub with_texts-requires-clause-length : goal.with_texts-requires-clause-length
with_texts-requires-clause-length c =
    let one = c.deref.result.now in
    let again = c.deref-in-loop-segment.result.now in
    ap length c.live.ensures.live ∙ length-live again.blocks again.live c.live.ensures.whole
    ∙ ap (λ (s : Segmented). length (documents_in s.blocks)) (c.deref-in-loop-segment.ensures ∙ sym c.deref.ensures)
    ∙ sym (ap length c.column.ensures.values ∙ length-map (documents_in one.blocks) (λ d. values_of d c.args.field.0))

pub loop-segment-preserved : goal.loop-segment-preserved
loop-segment-preserved c =
    c.in_ok-merger.ensures
    ∙ ap₂ (λ a b. a ++ b) c.loop-segment.invariant
    (ap₂ (λ set column. items_where_true set column)
    (c.live.ensures.live ∙ ap (λ (s : Segmented). s.live) c.deref-in-loop-segment.ensures)
    (c.column.ensures.values ∙ ap (λ (s : Segmented). column_of c.args.field.0 (documents_in s.blocks)) c.deref.ensures))
    ∙ sym (values_more arc_value c.args.segments.now c.loop-segment.segment-index c.segment-item.result c.loop-segment-test.true c.segment-item.is c.args.field.0)
