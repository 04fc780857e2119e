use Rattle.std.proofs.Common.{◌≡◌, map, take}
use Rattle.std.specs.Arc.{arc_value}
use Rattle.fc_spec.specs.documents.Val.{long}
use Rattle.fc_segment.specs.Merged.{live_values}
use Rattle.fc_segment.proofs.merged_columns.merged_longs.Given as goal

abbrev pub invariant-loop-segment : goal.invariant-loop-segment
invariant-loop-segment l = map (map long) l.merger ≡ live_values l.field.0 (map arc_value (take l.segment-index l.segments))
