use Rattle.std.proofs.Common.{◌≡◌, ℕ, ◌<◌, ◌*◌, min, length, map, get_or}
use Rattle.std.specs.Simd.Lanes.{chunk, mask_l}
use Rattle.fc_lane.specs.Between.{is_between}
use Rattle.fc_lane.proofs.between.mask_from_to.Given as goal

abbrev pub invariant-loop-word : goal.invariant-loop-word
invariant-loop-word l = record {
  place : l.at ≡ min (64 * l.word-index) (length l.values);
  made : (k : ℕ) → k < l.word-index → get_or l.out k 0 ≡ mask_l (map (is_between l.lo l.hi) (chunk (64 * k) 64 l.values));
}
