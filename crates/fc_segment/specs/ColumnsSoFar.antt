-- What columns that are being made stand for.
use Rattle.std.specs.Prelude.{◌<◌, ◌≤◌, ◌^◌, List, length, map, All}
use Rattle.fc_spec.specs.documents.Val.{Val}
use Rattle.fc_segment.specs.Building.{builds_texts, padded, values_built}
use Rattle.fc_segment.specs.Stored.{documents_at}
use Rattle.fc_segment.specs.Walked.{Walked}
use Rattle.fc_segment.specs.declared.columns.Columns.TheInside.{Inside}

-- the columns, each with all positions
abbrev pub columns_so_far : Inside → List (List (List Val))
columns_so_far inside = map (padded inside.len) (map values_built inside.builders.items)

abbrev pub walked : Inside → Walked
walked inside = record {
  texts = map builds_texts inside.builders.items;
  documents = documents_at (columns_so_far inside) inside.len;
}

-- no column is ahead
pub record AreSoFar (inside : Inside) : Type 0 where
  pub few : inside.len < 2 ^ 32
  pub behind : All (λ builder. length (values_built builder) ≤ inside.len) inside.builders.items
