-- What the schemas of generations are for their blocks.
use Rattle.std.specs.Prelude.{◌≡◌, List, All}
use Rattle.fc_spec.specs.documents.Schema.{Schema}
use Rattle.fc_spec.specs.documents.ValidBlocks.{IsBlockOf}
use Rattle.fc_store.specs.Generated.{Generated}

-- they all are this one
abbrev pub AreAll : Schema → List Schema → Type 0
AreAll schema schemas = All (λ s. s ≡ schema) schemas

-- they are one and the same
abbrev pub AreSame : List Schema → Type 0
AreSame schemas = (schema : Schema) × AreAll schema schemas

-- the blocks of a generation are blocks of its schema
abbrev pub HasOwnBlocks : Generated → Type 0
HasOwnBlocks g = All (IsBlockOf g.schema) g.blocks
