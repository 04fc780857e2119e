use Rattle.std.proofs.Common.{take}
use Rattle.fc_lists.proofs.Marks.{Marked}
use Rattle.fc_lists.proofs.bits.mark.Given as goal

abbrev pub invariant-loop-at : goal.invariant-loop-at
invariant-loop-at l = Marked l.words (take l.at-index l.positions)
