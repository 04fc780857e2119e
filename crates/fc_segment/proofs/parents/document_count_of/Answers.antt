use Rattle.std.proofs.Common.{map, ap, ◌∙◌, arith}
use Rattle.std.proofs.lemmas.List.{take_all}
use Rattle.fc_spec.specs.documents.Operations.{blocks_added}
use Rattle.fc_spec.specs.documents.Totals.{document_total}
use Rattle.fc_spec.specs.words.Lists.{joined}
use Rattle.fc_docs.specs.View.{batch_view, op_view}
use Rattle.fc_segment.proofs.AddedBatches.{batch_few, batch_total}
use Rattle.fc_segment.proofs.parents.document_count_of.Goals as goal

pub document_count-count-requires : goal.document_count-count-requires
document_count-count-requires c =
    let few = batch_few c.args.batches.now c.loop-batch.batch-index c.batch-item.result c.loop-batch-test.true c.batch-item.is in
    let same = ap (λ l. document_total (blocks_added (map op_view l))) c.deref.ensures.value in
    omega (arith, few, same)

pub overflow_add-count : goal.overflow_add-count
overflow_add-count c =
    let few = batch_few c.args.batches.now c.loop-batch.batch-index c.batch-item.result c.loop-batch-test.true c.batch-item.is in
    let same = ap (λ l. document_total (blocks_added (map op_view l))) c.deref.ensures.value in
    omega (arith, few, same, c.document_count-count.ensures, c.loop-batch.invariant)

pub loop-batch-preserved : goal.loop-batch-preserved
loop-batch-preserved c =
    let more = batch_total c.args.batches.now c.loop-batch.batch-index c.batch-item.result c.loop-batch-test.true c.batch-item.is in
    let same = ap (λ l. document_total (blocks_added (map op_view l))) c.deref.ensures.value in
    omega (arith, more, same, c.document_count-count.ensures, c.loop-batch.invariant)

pub returns : goal.returns
returns c = c.loop-batch.invariant ∙ ap (λ l. document_total (blocks_added (joined (map batch_view l)))) (take_all c.loop-batch.batch-index c.args.batches.now (omega arith))
