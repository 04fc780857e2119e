use Rattle.std.proofs.Common.{◌≡◌, length, map, take}
use Rattle.std.specs.Arc.{arc_value}
use Rattle.fc_segment.specs.Begun.{begun}
use Rattle.fc_segment.specs.Merged.{live_marks}
use Rattle.fc_segment.proofs.merged_parents.merged_parents.Given as goal

abbrev pub invariant-loop-segment : goal.invariant-loop-segment
invariant-loop-segment l = record {
  next : l.next ≡ length (live_marks (map arc_value (take l.segment-index l.segments)));
  parents : l.parents ≡ begun (length (live_marks (map arc_value l.segments))) (live_marks (map arc_value (take l.segment-index l.segments)));
}
