use Rattle.std.proofs.Common.{◌≡◌, ◌++◌, map}
use Rattle.fc_refine.specs.CandidateView.{candidate_part, found_part}
use Rattle.fc_refine.proofs.candidates.candidates_of.Given as goal

abbrev pub invariant-loop-one : goal.invariant-loop-one
invariant-loop-one l = map candidate_part l.list.items ++ map found_part l.one-iterator.rest.items ≡ map found_part l.fn.found.items
