use Rattle.std.proofs.Common.{◌≡◌, Some, drop}
use Rattle.fc_spec.specs.requests.Statistics.{greatest_of, greater}
use Rattle.fc_lane.proofs.masked.greatest.greatest_with_all.Given as goal

abbrev pub invariant-loop-value : goal.invariant-loop-value
invariant-loop-value l = greater (Some l.greatest) (greatest_of (drop l.value-index l.values)) ≡ greater (Some l.start) (greatest_of l.values)
