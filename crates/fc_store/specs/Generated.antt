-- What a generation is.
use Rattle.std.specs.Prelude.{ℕ, List}
use Rattle.fc_spec.specs.documents.Document.{Block}
use Rattle.fc_spec.specs.documents.Schema.{Schema}

-- its number and its blocks, beside the schema that they are valid for
pub record Generated : Type 0 where
  pub schema : Schema
  pub number : ℕ
  pub blocks : List Block
