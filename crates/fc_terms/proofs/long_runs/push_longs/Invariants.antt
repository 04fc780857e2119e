use Rattle.std.proofs.Common.{◌≡◌, ◌++◌, take}
use Rattle.fc_terms.specs.Gathered.{countings_at}
use Rattle.fc_terms.proofs.long_runs.push_longs.Given as goal

abbrev pub invariant-loop-value : goal.invariant-loop-value
invariant-loop-value l = l.into ≡ l.fn.into ++ countings_at l.at (take l.value-index l.values)
