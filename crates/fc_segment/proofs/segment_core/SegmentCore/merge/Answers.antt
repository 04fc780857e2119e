use Rattle.std.proofs.Common.{◌∙◌, map, length}
use Rattle.std.specs.Arc.{arc_value}
use Rattle.std.specs.List.{range_with_len}
use Rattle.fc_spec.specs.documents.Schema.{texts_held}
use Rattle.fc_segment.specs.Merged.{live_blocks_of}
use Rattle.fc_segment.proofs.MergedParts.{live_marks_are, live_values_are}
use Rattle.fc_segment.proofs.Rows.{length-valid_documents}
use Rattle.fc_segment.proofs.StoredBlocks.{IsMadeOf, made_columned, made_even, made_whole}
use Rattle.fc_segment.proofs.segment_core.SegmentCore.merge.Goals as goal

pub of-requires : goal.of-requires
of-requires c =
    let segments = map arc_value c.args.segments.now in
    let whole = c.in_ok-parents.ensures.whole in
    let count = length c.args.schema.now.fields in
    let parents = c.in_ok-parents.parents in
    let columns = c.in_ok-columns.columns.items in
    let made : IsMadeOf (live_blocks_of segments) count parents columns = record {
      marks = c.in_ok-parents.ensures.parents ∙ live_marks_are segments whole;
      values = c.in_ok-columns.ensures.values ∙ (λ i. map (λ field. live_values_are field segments whole i) (range_with_len 0 count));
    } in
    record { even = made_even (live_blocks_of segments) count parents columns made; whole = made_whole (live_blocks_of segments) count parents columns made }

pub returns : goal.returns
returns c =
    let segments = map arc_value c.args.segments.now in
    let whole = c.in_ok-parents.ensures.whole in
    let count = length c.args.schema.now.fields in
    let parents = c.in_ok-parents.parents in
    let columns = c.in_ok-columns.columns.items in
    let made : IsMadeOf (live_blocks_of segments) count parents columns = record {
      marks = c.in_ok-parents.ensures.parents ∙ live_marks_are segments whole;
      values = c.in_ok-columns.ensures.values ∙ (λ i. map (λ field. live_values_are field segments whole i) (range_with_len 0 count));
    } in
    c.in_ok-core.ensures
    ∙ made_columned (live_blocks_of segments) count parents columns made (texts_held c.args.schema.now.fields) c.in_ok-columns.ensures.kinds
    (length-valid_documents c.args.schema.now (live_blocks_of segments) c.requires.valid)
