use Rattle.std.proofs.Common.{◌≡◌, map, take}
use Rattle.std.specs.Arc.{arc_value}
use Rattle.fc_store.specs.Named.{has_one_of, texts_of}
use Rattle.fc_store.specs.Segments.{without}
use Rattle.fc_store.proofs.left.left_segments.Given as goal

abbrev pub invariant-loop-segment : goal.invariant-loop-segment
invariant-loop-segment l = map arc_value l.left.items ≡ map (without (has_one_of (texts_of l.ids))) (map arc_value (take l.segment-index l.segments))
