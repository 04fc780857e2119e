-- Batches that may be published, and the generations that they make.
use Rattle.std.specs.Prelude.{◌≡◌, ℕ, ◌+◌, ◌-◌, ◌≤◌, List, [], ◌∷◌, ◌++◌, length, take, All}
use Rattle.fc_spec.specs.documents.Document.{Batch, Block}
use Rattle.fc_spec.specs.documents.Operations.{after_ops, blocks_added}
use Rattle.fc_spec.specs.documents.Schema.{Schema}
use Rattle.fc_spec.specs.documents.Totals.{document_total}
use Rattle.fc_spec.specs.documents.ValidBlocks.{IsBlockOf}
use Rattle.fc_spec.specs.scripts.WorldLimits.{IsWithinLimits}
use Rattle.fc_spec.specs.words.Lists.{joined}
use Rattle.fc_store.specs.Generated.{Generated}
use Rattle.fc_store.specs.OwnIds.{HaveOwnIds}

-- a batch that adds blocks that are valid for the schema, with as few documents as a script may have
pub record IsBatchOf (s : Schema) (b : Batch) : Type 0 where
  pub valid : All (IsBlockOf s) (blocks_added b)
  pub few : document_total (blocks_added b) ≤ 1_048_576

-- without a commit it has no block, and no two of its blocks have the same id
abbrev pub IsBegun : Generated → Type 0
IsBegun g = (g.number ≡ 0 → g.blocks ≡ []) × HaveOwnIds g.blocks

-- what a store may publish: the generation that it begins with, and the batches behind it
pub record Chartered : Type 0 where
  pub start : Generated
  pub later : List Batch

-- the number of its last generation
abbrev pub last_number : Chartered → ℕ
last_number charter = charter.start.number + length charter.later

-- the blocks of its generation of a number: what the operations of the batches up to it leave of those that it begins with
abbrev pub blocks_at : Chartered → ℕ → List Block
blocks_at charter number = after_ops charter.start.blocks (joined (take (number - charter.start.number) charter.later))

-- the generation is the charter's of its number
abbrev pub IsChartered : Chartered → Generated → Type 0
IsChartered charter g = (g.number ≤ last_number charter) × (g.blocks ≡ blocks_at charter g.number) × (charter.start.number ≤ g.number) × IsBegun charter.start

-- the blocks that it begins with and all those that its batches add are within the limits
abbrev pub KeepsLimits : Chartered → Type 0
KeepsLimits charter = IsWithinLimits ((charter.start.blocks ++ blocks_added (joined charter.later)) ∷ [])
