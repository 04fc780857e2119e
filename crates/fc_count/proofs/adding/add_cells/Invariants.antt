use Rattle.fc_count.specs.Added.{HaveAdded}
use Rattle.fc_count.proofs.adding.add_cells.Given as goal

abbrev pub invariant-loop-number : goal.invariant-loop-number
invariant-loop-number g l = HaveAdded (g.K.Keys.key l.keys) l.cells.cells l.number l.fn.into l.into
