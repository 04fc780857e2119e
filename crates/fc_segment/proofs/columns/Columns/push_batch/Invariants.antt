use Rattle.std.proofs.Common.{◌≡◌, ◌++◌, map, All}
use Rattle.fc_spec.specs.documents.Operations.{blocks_added}
use Rattle.fc_spec.specs.documents.Totals.{documents_in}
use Rattle.fc_docs.specs.View.{batch_view, op_view}
use Rattle.fc_segment.specs.Building.{FitsTexts}
use Rattle.fc_segment.proofs.columns.Columns.push_batch.Given as goal

-- with those that are left they are all documents
abbrev pub invariant-loop-op : goal.invariant-loop-op
invariant-loop-op l = record {
  texts : l.columns.texts ≡ l.fn.self.texts;
  documents : l.columns.documents ++ documents_in (blocks_added (map op_view l.op-iterator.rest.items))
      ≡ l.fn.self.documents ++ documents_in (blocks_added (batch_view l.fn.batch));
  fit : All (FitsTexts l.fn.self.texts) (documents_in (blocks_added (map op_view l.op-iterator.rest.items)));
}
