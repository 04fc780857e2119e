use Rattle.std.proofs.Common.{◌≡◌, ◌<◌, ◌^◌, length, map, drop, sum}
use Rattle.std.specs.Arc.{arc_value}
use Rattle.fc_store.specs.Tiers.{ArePassed, sizes_of}
use Rattle.fc_store.proofs.tiers.merged_from.Given as goal

abbrev pub invariant-loop-place : goal.invariant-loop-place
invariant-loop-place l = record {
  within : l.place < length l.segments;
  small : l.size < 2 ^ 32;
  size : l.size ≡ sum (drop l.place (sizes_of (map arc_value l.segments)));
  needed : ArePassed l.sparse l.place (sizes_of (map arc_value l.segments));
}

abbrev pub decreases-loop-place : goal.decreases-loop-place
decreases-loop-place l = l.place
