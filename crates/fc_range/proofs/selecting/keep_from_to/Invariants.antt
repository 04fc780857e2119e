use Rattle.std.proofs.Common.{◌≡◌, ◌++◌, map}
use Rattle.fc_column.specs.Longs.{has_between}
use Rattle.fc_docset.specs.Positions.{positions}
use Rattle.fc_range.proofs.Selected.{HasPicked}
use Rattle.fc_range.proofs.selecting.keep_from_to.Given as goal

abbrev pub invariant-loop-at : goal.invariant-loop-at
invariant-loop-at l = record {
  made : HasPicked (map (has_between l.least l.greatest) l.column) l.yielded l.into;
  left : l.yielded ++ l.at-iterator ≡ positions l.docs;
}
