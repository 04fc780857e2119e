use Rattle.std.proofs.Common.{map, take}
use Rattle.std.specs.Arc.{arc_value}
use Rattle.fc_store.specs.Segments.{AreDense}
use Rattle.fc_store.proofs.tiers.first_sparse.Given as goal

abbrev pub invariant-loop-at : goal.invariant-loop-at
invariant-loop-at l = AreDense (take l.at (map arc_value l.segments))
