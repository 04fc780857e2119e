use Rattle.std.proofs.Common.{◌∙◌, length, map}
use Rattle.fc_spec.specs.documents.Operations.{blocks_added}
use Rattle.fc_spec.specs.documents.Schema.{texts_held}
use Rattle.fc_spec.specs.words.Lists.{joined}
use Rattle.fc_docs.specs.View.{batch_view}
use Rattle.fc_segment.proofs.Rows.{length-valid_documents}
use Rattle.fc_segment.proofs.StoredBlocks.{IsMadeOf, made_columned, made_even, made_whole}
use Rattle.fc_segment.proofs.segment_core.SegmentCore.of_batches.Goals as goal

pub of-requires : goal.of-requires
of-requires c =
    let blocks = blocks_added (joined (map batch_view c.args.batches.items)) in
    let count = length c.args.schema.now.fields in
    let parents = c.in_ok-parents.parents in
    let columns = c.in_ok-columns.columns.items in
    let made : IsMadeOf blocks count parents columns = record {
      marks = rw (← c.deref.ensures.value) c.in_ok-parents.ensures;
      values = c.in_ok-columns.ensures.values;
    } in
    record { even = made_even blocks count parents columns made; whole = made_whole blocks count parents columns made }

pub returns : goal.returns
returns c =
    let blocks = blocks_added (joined (map batch_view c.args.batches.items)) in
    let count = length c.args.schema.now.fields in
    let parents = c.in_ok-parents.parents in
    let columns = c.in_ok-columns.columns.items in
    let made : IsMadeOf blocks count parents columns = record {
      marks = rw (← c.deref.ensures.value) c.in_ok-parents.ensures;
      values = c.in_ok-columns.ensures.values;
    } in
    c.in_ok-core.ensures
    ∙ made_columned blocks count parents columns made (texts_held c.args.schema.now.fields) c.in_ok-columns.ensures.kinds (length-valid_documents c.args.schema.now blocks c.requires.valid)
