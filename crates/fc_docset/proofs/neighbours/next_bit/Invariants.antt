use Rattle.fc_docset.proofs.WordNeighbours.{AreNoneTo}
use Rattle.fc_docset.proofs.neighbours.next_bit.Given as goal

abbrev pub invariant-loop-at : goal.invariant-loop-at
invariant-loop-at l = AreNoneTo l.words l.from l.at l.low
