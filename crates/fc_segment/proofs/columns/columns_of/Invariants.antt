use Rattle.std.proofs.Common.{◌≡◌}
use Rattle.fc_spec.specs.documents.Schema.{texts_held}
use Rattle.fc_spec.specs.documents.Totals.{documents_in}
use Rattle.fc_segment.proofs.AddedBlocks.{added_before}
use Rattle.fc_segment.proofs.columns.columns_of.Given as goal

abbrev pub invariant-loop-op : goal.invariant-loop-op
invariant-loop-op l = l.columns ≡ record { texts = texts_held l.schema.fields; documents = documents_in (added_before l.ops l.op-index) }
