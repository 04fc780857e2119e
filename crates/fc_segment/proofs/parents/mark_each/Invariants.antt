use Rattle.std.proofs.Common.{◌≡◌, ◌+◌, ◌++◌, length, take}
use Rattle.fc_spec.specs.documents.Totals.{document_total}
use Rattle.fc_segment.specs.Begun.{begun}
use Rattle.fc_segment.specs.Parents.{parents_in}
use Rattle.fc_segment.proofs.AddedBlocks.{added_before}
use Rattle.fc_segment.proofs.parents.mark_each.Given as goal

-- where the next block begins, and the parents so far
abbrev pub invariant-loop-op : goal.invariant-loop-op
invariant-loop-op l = record {
  place : l.next ≡ l.from + document_total (added_before l.ops l.op-index);
  parents : l.parents ≡ begun (length l.fn.parents) (take l.from l.fn.parents ++ parents_in (added_before l.ops l.op-index));
}
