use Rattle.std.proofs.Common.{◌≡◌, ◌++◌}
use Rattle.fc_docset.specs.Positions.{positions}
use Rattle.fc_kind.proofs.set_statistics.listed.Given as goal

abbrev pub invariant-loop-at : goal.invariant-loop-at
invariant-loop-at l = l.list.items ++ l.at-iterator ≡ positions l.docs
