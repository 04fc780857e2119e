use Rattle.std.proofs.Common.{map, ap, ◌∙◌, arith}
use Rattle.std.proofs.lemmas.List.{take_all}
use Rattle.fc_spec.specs.documents.Operations.{blocks_added}
use Rattle.fc_spec.specs.documents.Totals.{document_total}
use Rattle.fc_docs.specs.View.{op_view}
use Rattle.fc_segment.proofs.AddedBlocks.{total_more, total_few}
use Rattle.fc_segment.proofs.parents.document_count.Goals as goal

pub added-count-requires : goal.added-count-requires
added-count-requires c = omega (arith, total_few c.args.ops.now c.loop-op.op-index c.op-item.result c.loop-op-test.true c.op-item.is)

pub overflow_add-count : goal.overflow_add-count
overflow_add-count c = omega (arith, total_few c.args.ops.now c.loop-op.op-index c.op-item.result c.loop-op-test.true c.op-item.is)

pub loop-op-preserved : goal.loop-op-preserved
loop-op-preserved c = omega (arith, total_more c.args.ops.now c.loop-op.op-index c.op-item.result c.loop-op-test.true c.op-item.is)

pub returns : goal.returns
returns c = c.loop-op.invariant ∙ ap (λ l. document_total (blocks_added (map op_view l))) (take_all c.loop-op.op-index c.args.ops.now (omega arith))
