use Rattle.std.proofs.Common.{◌≡◌, ◌+◌, drop}
use Rattle.fc_spec.specs.documents.Operations.{blocks_added}
use Rattle.fc_spec.specs.documents.Totals.{document_total}
use Rattle.fc_store.specs.Named.{ops_of}
use Rattle.fc_store.proofs.named.document_count.Given as goal

-- with what the operations that are left add it is what all of them add
abbrev pub invariant-loop-op : goal.invariant-loop-op
invariant-loop-op l = l.count + document_total (blocks_added (ops_of (drop l.op-index l.ops))) ≡ document_total (blocks_added (ops_of l.ops))
