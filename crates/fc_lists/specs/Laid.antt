-- Rows of items, and the items of the next row.
use Rattle.std.specs.Prelude.{List}

pub record Laid (T : Type 0) : Type 0 where
  pub rows : List (List T)
  pub next : List T
