use Rattle.std.proofs.Common.{◌≡◌}
use Rattle.fc_spec.specs.documents.Totals.{document_total}
use Rattle.fc_segment.proofs.AddedBlocks.{added_before}
use Rattle.fc_segment.proofs.parents.document_count.Given as goal

abbrev pub invariant-loop-op : goal.invariant-loop-op
invariant-loop-op l = l.count ≡ document_total (added_before l.ops l.op-index)
