-- What a segment stands for, whose blocks others share.
use Rattle.std.specs.Arc.{arc_value}
use Rattle.fc_spec.specs.documents.Live.{HasWholeBlocks}
use Rattle.fc_segment.specs.Segmented.{Segmented}
use Rattle.fc_segment.specs.declared.segment.Segment.TheInside.{Inside}

-- its blocks, and which are live
abbrev pub segmented : Inside → Segmented
segmented s = record { texts = (arc_value s.core).texts; blocks = (arc_value s.core).blocks; live = s.live }

-- of each block all documents are live, or none
pub record IsMarked (s : Inside) : Type 0 where
  pub whole : HasWholeBlocks (arc_value s.core).blocks s.live
