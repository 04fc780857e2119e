-- What columns that are being made are.
use Rattle.std.specs.Prelude.{List, Bool}
use Rattle.fc_spec.specs.documents.Document.{Document}

-- for each field whether it holds texts; and the documents so far
pub record Walked : Type 0 where
  pub texts : List Bool
  pub documents : List Document
