-- What is merged of segments: what is live of each, one segment behind the other.
use Rattle.std.specs.Prelude.{ℕ, List, map, Bool}
use Rattle.std.specs.List.{flat_map, items_where_true}
use Rattle.fc_spec.specs.documents.Val.{Val}
use Rattle.fc_spec.specs.documents.Document.{Block}
use Rattle.fc_spec.specs.documents.Live.{HasWholeBlocks, live_in}
use Rattle.fc_spec.specs.documents.World.{World}
use Rattle.fc_spec.specs.documents.Columns.{column_of}
use Rattle.fc_spec.specs.documents.Totals.{documents_in}
use Rattle.fc_spec.specs.words.Lists.{joined}
use Rattle.fc_segment.specs.Parents.{parents_in}
use Rattle.fc_segment.specs.Segmented.{Segmented}

-- the blocks of each segment
abbrev pub blocks_each : List Segmented → World
blocks_each segments = map (λ s. s.blocks) segments

-- of each of its blocks all documents are live, or none
abbrev pub IsWhole : Segmented → Type 0
IsWhole s = HasWholeBlocks s.blocks s.live

-- its live blocks
abbrev pub live_blocks : Segmented → List Block
live_blocks s = live_in s.blocks s.live

-- those of segments, one segment after another
abbrev pub live_blocks_of : List Segmented → List Block
live_blocks_of segments = joined (map live_blocks segments)

-- the values of a field at the live positions
abbrev pub live_values : ℕ → List Segmented → List (List Val)
live_values field segments = flat_map (λ s. items_where_true s.live (column_of field (documents_in s.blocks))) segments

-- which of the live positions are parents
abbrev pub live_marks : List Segmented → List Bool
live_marks segments = flat_map (λ s. items_where_true s.live (parents_in s.blocks)) segments
