use Rattle.std.proofs.Common.{◌≡◌, drop}
use Rattle.fc_spec.specs.requests.Statistics.{least_of, lesser}
use Rattle.fc_lane.specs.Masked.{masked}
use Rattle.fc_lane.proofs.masked.masked_min.Given as goal

abbrev pub invariant-loop-word : goal.invariant-loop-word
invariant-loop-word l = lesser l.least (least_of (masked (drop l.word-index l.mask) l.rest)) ≡ least_of (masked l.mask l.values)
