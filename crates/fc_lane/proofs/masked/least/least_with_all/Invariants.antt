use Rattle.std.proofs.Common.{◌≡◌, Some, drop}
use Rattle.fc_spec.specs.requests.Statistics.{least_of, lesser}
use Rattle.fc_lane.proofs.masked.least.least_with_all.Given as goal

abbrev pub invariant-loop-value : goal.invariant-loop-value
invariant-loop-value l = lesser (Some l.least) (least_of (drop l.value-index l.values)) ≡ lesser (Some l.start) (least_of l.values)
