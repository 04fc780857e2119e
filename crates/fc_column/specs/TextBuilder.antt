-- What a builder of a column of texts keeps.
use Rattle.std.specs.Prelude.{◌≡◌, true, false, List, [], map, All}
use Rattle.std.specs.List.{list_any}
use Rattle.fc_spec.specs.documents.Val.{Text, text_cmp}
use Rattle.fc_spec.specs.documents.Columns.{IsAscending}
use Rattle.fc_column.specs.Terms.{has_text}
use Rattle.fc_column.specs.Numbering.{IsNumbering, has_number, text_numbered}
use Rattle.fc_column.specs.declared.builder.TextBuilder.TheInside.{Inside}

-- the texts of each position
abbrev pub texts_built : Inside → List (List Text)
texts_built builder = map (map (text_numbered builder.numbers.entries)) builder.rows.rows

-- each position has numbers of texts, and ascends; unless memory was wanted, each text with a number is at a position,
-- and no position is left half made
pub record IsSound (builder : Inside) : Type 0 where
  pub numbering : IsNumbering builder.numbers.entries
  pub numbered : All (All (λ n. has_number n builder.numbers.entries ≡ true)) builder.rows.rows
  pub ascending : All (IsAscending text_cmp) (texts_built builder)
  pub used : builder.spent ≡ false → (t : Text) → has_text t (map (λ entry. entry.0) builder.numbers.entries) ≡ list_any (has_text t) (texts_built builder)
  pub whole : builder.spent ≡ false → builder.rows.next ≡ []
