use Rattle.fc_docset.proofs.BitsInBoth.{in_both}
use Rattle.fc_docset.proofs.WordNeighbours.{AreNoneTo}
use Rattle.fc_docset.proofs.neighbours.next_in_both.Given as goal

abbrev pub invariant-loop-at : goal.invariant-loop-at
invariant-loop-at l = AreNoneTo (in_both l.words l.others) l.from l.at l.low
