use Rattle.std.proofs.Common.{◌≡◌, ◌≤◌, length, map, drop}
use Rattle.std.specs.Simd.Lanes.{mask_l}
use Rattle.fc_lane.specs.Between.{is_between}
use Rattle.fc_lane.proofs.between.word_of_few.Given as goal

abbrev pub invariant-loop-at : goal.invariant-loop-at
invariant-loop-at l = record {
  within : l.at ≤ length l.values;
  made : l.word ≡ mask_l (map (is_between l.lo l.hi) (drop l.at l.values));
}

abbrev pub decreases-loop-at : goal.decreases-loop-at
decreases-loop-at l = l.at
