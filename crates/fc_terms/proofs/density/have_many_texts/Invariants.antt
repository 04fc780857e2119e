use Rattle.std.proofs.Common.{◌≡◌, ◌++◌}
use Rattle.fc_docset.specs.Positions.{positions}
use Rattle.fc_terms.proofs.density.have_many_texts.Given as goal

abbrev pub invariant-loop-at : goal.invariant-loop-at
invariant-loop-at l = record {
  left : l.yielded ++ l.at-iterator ≡ positions l.docs;
}
