-- What a column stands for.
use Rattle.std.specs.Prelude.{List, map, Bool, true, false}
use Rattle.fc_spec.specs.documents.Val as definition
use Rattle.fc_segment.specs.declared.column.Column.{Column}
use Rattle.fc_segment.specs.declared.column.Column.TheVariants.{Text, Long}

-- the values of each position
abbrev pub column_values : Column → List (List definition.Val)
column_values (Text c) = map (map definition.text) c
column_values (Long c) = map (map definition.long) c

abbrev pub is_text_column : Column → Bool
is_text_column (Text c) = true
is_text_column (Long c) = false
