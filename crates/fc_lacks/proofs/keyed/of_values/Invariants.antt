use Rattle.std.proofs.Common.{◌≡◌, ◌++◌, map}
use Rattle.fc_lacks.specs.Keys.{keyed_from}
use Rattle.fc_lacks.proofs.keyed.of_values.Given as goal

abbrev pub invariant-loop-candidate : goal.invariant-loop-candidate
invariant-loop-candidate g l = l.list.items ++ map keyed_from l.candidate-iterator.rest.items ≡ map keyed_from l.fn.candidates.items
