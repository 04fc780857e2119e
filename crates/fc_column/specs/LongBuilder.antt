-- What a builder of a column of integers keeps.
use Rattle.std.specs.Prelude.{◌≡◌, true, false, [], All}
use Rattle.std.specs.Ordering.{int_cmp}
use Rattle.fc_spec.specs.documents.Columns.{IsAscending}
use Rattle.fc_spec.specs.documents.IntegerTexts.{is_long}
use Rattle.fc_column.specs.declared.long.LongBuilder.TheInside.{Inside}

-- the values of each position ascend and fit 64 bits signed, and no position is left half made
pub record IsSound (builder : Inside) : Type 0 where
  pub ascending : All (IsAscending int_cmp) builder.values.rows
  pub long : All (All (λ value. is_long value ≡ true)) builder.values.rows
  pub whole : builder.spent ≡ false → builder.values.next ≡ []
