use Rattle.std.proofs.Common.{◌≡◌, drop}
use Rattle.fc_spec.specs.requests.Statistics.{greatest_of, greater}
use Rattle.fc_lane.specs.Masked.{masked}
use Rattle.fc_lane.proofs.masked.masked_max.Given as goal

abbrev pub invariant-loop-word : goal.invariant-loop-word
invariant-loop-word l = greater l.greatest (greatest_of (masked (drop l.word-index l.mask) l.rest)) ≡ greatest_of (masked l.mask l.values)
