use Rattle.std.proofs.Common.{◌≡◌, ◌++◌}
use Rattle.fc_docset.specs.Positions.{positions}
use Rattle.fc_date_range.proofs.selecting.have_fewer.Given as goal

abbrev pub invariant-loop-at : goal.invariant-loop-at
invariant-loop-at l = record {
  left : l.yielded ++ l.at-iterator ≡ positions l.docs;
}
