use Rattle.std.proofs.Common.{◌≡◌, length}
use Rattle.fc_docset.specs.Left.{positions_left, Fits}
use Rattle.fc_docset.proofs.iter.PositionsIterator.next.Given as goal

abbrev pub invariant-loop-self : goal.invariant-loop-self
invariant-loop-self l = (positions_left l.self-inside ≡ l.fn.self) × Fits l.self-inside

abbrev pub decreases-loop-self : goal.decreases-loop-self
decreases-loop-self l = length l.self-inside.words.now
