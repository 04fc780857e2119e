use Rattle.std.proofs.Common.{◌≡◌, ◌<◌, ◌^◌, Some, [], ◌∷◌, length}
use Rattle.fc_spec.specs.requests.Statistics.{least_of, lesser}
use Rattle.fc_lane.specs.Masked.{masked}
use Rattle.fc_lane.proofs.masked.least.least_with_bits.Given as goal

abbrev pub invariant-loop-left : goal.invariant-loop-left
invariant-loop-left l = record {
  least : lesser (Some l.least) (least_of (masked (l.left ∷ []) l.part)) ≡ lesser (Some l.start) (least_of (masked (l.word ∷ []) l.part));
  within : l.left < 2 ^ length l.part;
}

abbrev pub decreases-loop-left : goal.decreases-loop-left
decreases-loop-left l = l.left
