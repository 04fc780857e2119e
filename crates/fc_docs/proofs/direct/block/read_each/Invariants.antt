use Rattle.std.proofs.Common.{length}
use Rattle.fc_docs.proofs.ChildrenRead.{EachSoFar}
use Rattle.fc_docs.proofs.direct.block.read_each.Given as goal

abbrev pub invariant-items : goal.invariant-items
invariant-items l = EachSoFar l.schema l.initial.reader l.reader l.children.items

abbrev pub decreases-items : goal.decreases-items
decreases-items l = length l.reader
