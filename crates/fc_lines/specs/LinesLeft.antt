-- The lines of a script that are left.
use Rattle.std.specs.Prelude.{ℕ, suc, List, not}
use Rattle.std.specs.List.{filter, enumerate_from}
use Rattle.fc_spec.specs.documents.Val.{Text}
use Rattle.fc_spec.specs.scripts.ScriptReading.{Numbered, is_silent}

-- the lines that are left, and the number of the line before them
pub record LinesLeft : Type 0 where
  pub number : ℕ
  pub lines : List Text

-- those that say something, each with its number
abbrev pub lines_left : LinesLeft → List Numbered
lines_left left = filter (λ l. not (is_silent l.1)) (enumerate_from (suc left.number) left.lines)
