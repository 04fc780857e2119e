use Rattle.std.proofs.Common.{take}
use Rattle.fc_terms.proofs.PickedPositions.{ArePicked}
use Rattle.fc_terms.proofs.selecting.pick.Given as goal

abbrev pub invariant-loop-at : goal.invariant-loop-at
invariant-loop-at l = ArePicked l.docs (take l.at-index l.positions) l.into
