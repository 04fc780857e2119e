use Rattle.std.proofs.Common.{◌≡◌, ◌++◌, map}
use Rattle.fc_reading.specs.Terms.{part_from}
use Rattle.fc_reading.proofs.terms.value_parts.Given as goal

abbrev pub invariant-loop-candidate : goal.invariant-loop-candidate
invariant-loop-candidate g l = l.parts.items ++ map part_from l.candidate-iterator.rest.items ≡ map part_from l.fn.candidates.items
