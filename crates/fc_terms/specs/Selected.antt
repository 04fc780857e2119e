-- Positions of a set by their values in a column.
use Rattle.std.specs.Prelude.{Bool, ◌&&◌, List, map}
use Rattle.fc_spec.specs.documents.Sets.{zip_with}
use Rattle.fc_spec.specs.documents.Val.{Val}

-- those of a set whose values pass
abbrev pub where_values : (List Val → Bool) → List (List Val) → List Bool → List Bool
where_values passes column set = zip_with ◌&&◌ set (map passes column)
