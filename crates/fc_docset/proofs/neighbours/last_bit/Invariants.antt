use Rattle.fc_docset.proofs.WordNeighbours.{AreNoneBehind}
use Rattle.fc_docset.proofs.neighbours.last_bit.Given as goal

abbrev pub invariant-loop-at : goal.invariant-loop-at
invariant-loop-at l = AreNoneBehind l.words l.to l.at l.high
