use Rattle.std.proofs.Common.{◌≡◌, ◌++◌, take}
use Rattle.fc_terms.specs.Gathered.{countings_at, ordinals_above}
use Rattle.fc_terms.proofs.text_runs.push_ordinals.Given as goal

abbrev pub invariant-loop-ord : goal.invariant-loop-ord
invariant-loop-ord l = l.into ≡ l.fn.into ++ countings_at l.at (ordinals_above l.from l.to (take l.ord-index l.ordinals))
