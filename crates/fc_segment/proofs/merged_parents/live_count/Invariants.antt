use Rattle.std.proofs.Common.{◌≡◌, length, map, take, All}
use Rattle.std.specs.Arc.{arc_value}
use Rattle.fc_segment.specs.Merged.{live_marks, IsWhole}
use Rattle.fc_segment.proofs.merged_parents.live_count.Given as goal

abbrev pub invariant-loop-segment : goal.invariant-loop-segment
invariant-loop-segment l = record {
  count : l.count ≡ length (live_marks (map arc_value (take l.segment-index l.segments)));
  whole : All IsWhole (map arc_value (take l.segment-index l.segments));
}
