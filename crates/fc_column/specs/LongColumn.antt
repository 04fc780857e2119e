-- What a column of integers keeps.
use Rattle.std.specs.Prelude.{◌≡◌, true, All}
use Rattle.std.specs.Ordering.{int_cmp}
use Rattle.fc_spec.specs.documents.Columns.{IsAscending}
use Rattle.fc_spec.specs.documents.IntegerTexts.{is_long}
use Rattle.fc_lists.specs.Ordered.{AreInOrder}
use Rattle.fc_column.specs.declared.long.LongColumn.TheInside.{Inside}

-- the integers of each position ascend and fit 64 bits signed, and all of them stand in order too
pub record IsColumn (column : Inside) : Type 0 where
  pub ascending : All (IsAscending int_cmp) column.rows
  pub long : All (All (λ value. is_long value ≡ true)) column.rows
  pub in_order : AreInOrder column.values.items column.positions.items column.rows
