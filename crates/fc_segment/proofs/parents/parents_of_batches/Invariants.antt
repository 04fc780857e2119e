use Rattle.std.proofs.Common.{◌≡◌, map}
use Rattle.fc_spec.specs.documents.Operations.{blocks_added}
use Rattle.fc_spec.specs.documents.Totals.{document_total}
use Rattle.fc_spec.specs.words.Lists.{joined}
use Rattle.fc_docs.specs.View.{batch_view}
use Rattle.fc_segment.specs.Begun.{begun}
use Rattle.fc_segment.specs.Parents.{parents_in}
use Rattle.fc_segment.proofs.AddedBatches.{ops_before}
use Rattle.fc_segment.proofs.parents.parents_of_batches.Given as goal

-- where the next batch begins, and the parents so far
abbrev pub invariant-loop-batch : goal.invariant-loop-batch
invariant-loop-batch l = record {
  place : l.next ≡ document_total (blocks_added (ops_before l.batches l.batch-index));
  parents : l.parents ≡ begun (document_total (blocks_added (joined (map batch_view l.batches)))) (parents_in (blocks_added (ops_before l.batches l.batch-index)));
}
