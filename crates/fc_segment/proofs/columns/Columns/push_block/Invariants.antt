use Rattle.std.proofs.Common.{◌≡◌, ◌++◌, take}
use Rattle.fc_segment.proofs.columns.Columns.push_block.Given as goal

abbrev pub invariant-loop-child : goal.invariant-loop-child
invariant-loop-child l = l.columns ≡ record { texts = l.fn.self.texts; documents = l.fn.self.documents ++ take l.child-index l.child-items }
