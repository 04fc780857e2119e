-- The segments of a generation.
use Rattle.std.specs.Prelude.{◌≡◌, ◌==◌, ◌*◌, ◌<◌, ◌≤◌, List, [], ◌∷◌, Bool, true, replicate, All, if◌then◌else◌}
use Rattle.fc_spec.specs.documents.Document.{Block}
use Rattle.fc_spec.specs.documents.Live.{HasWholeBlocks, set_without}
use Rattle.fc_spec.specs.documents.Schema.{Schema, texts_held}
use Rattle.fc_spec.specs.documents.Totals.{document_total}
use Rattle.fc_spec.specs.documents.ValidBlocks.{IsBlockOf}
use Rattle.fc_spec.specs.scripts.WorldLimits.{IsWithinLimits}
use Rattle.fc_spec.specs.words.Lists.{joined}
use Rattle.fc_segment.specs.Merged.{blocks_each, live_blocks, live_blocks_of}
use Rattle.fc_segment.specs.Segmented.{Segmented}

-- each segment has a column of the right kind for each field; its blocks, live or not, are valid, and within the limits by themselves; and each of its blocks is live whole or not at all
pub record AreSegmentsOf (s : Schema) (segments : List Segmented) : Type 0 where
  pub kinds : All (λ segment. segment.texts ≡ texts_held s.fields) segments
  pub valid : All (IsBlockOf s) (joined (blocks_each segments))
  pub limits : All (λ segment. IsWithinLimits (segment.blocks ∷ [])) segments
  pub whole : All (λ segment. HasWholeBlocks segment.blocks segment.live) segments

-- a segment without the blocks that pass a test: they are not live
abbrev pub without : (Block → Bool) → Segmented → Segmented
without test segment = record segment { live = set_without test segment.blocks segment.live }

-- the segment, if it has a document
abbrev pub if_any : Segmented → List Segmented
if_any segment = if document_total segment.blocks == 0 then [] else segment ∷ []

-- the live blocks of segments as one segment, all live
abbrev pub merged : Schema → List Segmented → Segmented
merged s segments = record { texts = texts_held s.fields; blocks = live_blocks_of segments; live = replicate (document_total (live_blocks_of segments)) true }

-- at least half of the documents of each segment are live
abbrev pub AreDense : List Segmented → Type 0
AreDense segments = All (λ segment. document_total segment.blocks ≤ 2 * document_total (live_blocks segment)) segments

-- fewer documents of the segment are live than dead
abbrev pub IsSparse : Segmented → Type 0
IsSparse segment = 2 * document_total (live_blocks segment) < document_total segment.blocks
