use Rattle.std.proofs.Common.{◌≡◌}
use Rattle.fc_spec.specs.documents.Operations.{blocks_added}
use Rattle.fc_spec.specs.documents.Totals.{document_total}
use Rattle.fc_segment.proofs.AddedBatches.{ops_before}
use Rattle.fc_segment.proofs.parents.document_count_of.Given as goal

abbrev pub invariant-loop-batch : goal.invariant-loop-batch
invariant-loop-batch l = l.count ≡ document_total (blocks_added (ops_before l.batches l.batch-index))
