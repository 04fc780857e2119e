-- What a segment is.
use Rattle.std.specs.Prelude.{List, Bool}
use Rattle.fc_spec.specs.documents.Document.{Block}

-- for each field whether it holds texts; the blocks; and for each of their documents whether it is live
pub record Segmented : Type 0 where
  pub texts : List Bool
  pub blocks : List Block
  pub live : List Bool
