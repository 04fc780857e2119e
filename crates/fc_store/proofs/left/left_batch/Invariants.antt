use Rattle.std.proofs.Common.{◌≡◌, ◌+◌, ◌++◌, drop, map}
use Rattle.fc_spec.specs.documents.Document.{adding}
use Rattle.fc_spec.specs.documents.Live.{live_in}
use Rattle.fc_spec.specs.documents.Operations.{blocks_added}
use Rattle.fc_spec.specs.documents.Totals.{document_total}
use Rattle.fc_docs.specs.View.{batch_view, op_view}
use Rattle.fc_store.proofs.left.left_batch.Given as goal

-- what the operations that are left add begins at the position; with what is kept of it they are what is kept of all
abbrev pub invariant-loop-op : goal.invariant-loop-op
invariant-loop-op l = record {
  at : l.at + document_total (blocks_added (map op_view l.op-iterator.rest.items)) ≡ l.from + document_total (blocks_added (batch_view l.fn.batch));
  kept : map op_view l.ops.items ++ map adding (live_in (blocks_added (map op_view l.op-iterator.rest.items)) (drop l.at l.left))
      ≡ map adding (live_in (blocks_added (batch_view l.fn.batch)) (drop l.from l.left));
}
