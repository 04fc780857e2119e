-- What a generation's fields stand for.
use Rattle.std.specs.Prelude.{map}
use Rattle.std.specs.Arc.{arc_value}
use Rattle.fc_segment.specs.Merged.{live_blocks_of}
use Rattle.fc_store.specs.Generated.{Generated}
use Rattle.fc_store.specs.OwnIds.{HaveOwnIds}
use Rattle.fc_store.specs.Segments.{AreDense, AreSegmentsOf}
use Rattle.fc_store.specs.Tiers.{AreTiered, sizes_of}
use Rattle.fc_store.specs.declared.generation.Generation.TheInside.{Inside}

-- its blocks are the live ones of its segments
abbrev pub generated : Inside → Generated
generated g = record { schema = arc_value g.schema; number = g.number; blocks = live_blocks_of (map arc_value g.segments.items) }

-- its segments are of its schema; each has a document, at least twice as many as the next one, and no more that are dead than that are live; and no two of its blocks have the same id
pub record IsBuilt (g : Inside) : Type 0 where
  pub segments : AreSegmentsOf (arc_value g.schema) (map arc_value g.segments.items)
  pub tiers : AreTiered (sizes_of (map arc_value g.segments.items))
  pub dense : AreDense (map arc_value g.segments.items)
  pub ids : HaveOwnIds (live_blocks_of (map arc_value g.segments.items))
