-- What the ends of a store show, and how they change.
use Rattle.std.specs.Prelude.{◌≡◌, ℕ, ◌≤◌}
use Rattle.fc_spec.specs.documents.Schema.{Schema}
use Rattle.fc_store.specs.Generated.{Generated}
use Rattle.fc_store.specs.Charters.{Chartered, IsChartered}

-- a writer, or a note of it: its charter and the schema of its generations, and the number that was published last
pub record Writing : Type 0 where
  pub schema : Schema
  pub charter : Chartered
  pub number : ℕ

-- a reader: the same, and the least number that it pins from now on
pub record Pinning : Type 0 where
  pub schema : Schema
  pub charter : Chartered
  pub least : ℕ

-- the reader is of the same charter, and pins no lower numbers than before
pub record IsNoLower (old new : Pinning) : Type 0 where
  pub schema : new.schema ≡ old.schema
  pub charter : new.charter ≡ old.charter
  pub least : old.least ≤ new.least

-- the reader pinned the generation: the charter's of its number, no lower than before; and from now on it pins no lower one
pub record PinsGeneration (old : Pinning) (g : Generated) (new : Pinning) : Type 0 where
  pub schema : g.schema ≡ old.schema
  pub charted : IsChartered old.charter g
  pub no_lower : old.least ≤ g.number
  pub after : new ≡ record old { least = g.number }
