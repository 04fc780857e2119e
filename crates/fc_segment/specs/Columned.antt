-- What columns of blocks are.
use Rattle.std.specs.Prelude.{List, Bool}
use Rattle.fc_spec.specs.documents.Document.{Block}

-- for each field whether it holds texts; and the blocks
pub record Columned : Type 0 where
  pub texts : List Bool
  pub blocks : List Block
