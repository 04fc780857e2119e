use Rattle.std.proofs.Common.{◌≡◌, ◌++◌, ◌<◌, All, length}
use Rattle.fc_docset.specs.Positions.{positions}
use Rattle.fc_terms.specs.Gathered.{AreGathered, longs_at}
use Rattle.fc_terms.proofs.long_runs.long_countings.Given as goal

abbrev pub invariant-loop-at : goal.invariant-loop-at
invariant-loop-at l = record {
  gathered : AreGathered (longs_at l.column) l.yielded l.countings;
  there : All (λ c. c.at < length l.column) l.countings;
  left : l.yielded ++ l.at-iterator ≡ positions l.docs;
}
