use Rattle.std.proofs.Common.{◌≡◌, take, map, true, All}
use Rattle.fc_base.specs.View.{val_view}
use Rattle.fc_spec.specs.documents.Columns.{longs_in}
use Rattle.fc_spec.specs.documents.IntegerTexts.{is_long}
use Rattle.fc_column.proofs.long.LongBuilder.push_doc.Given as goal

abbrev pub invariant-loop-value : goal.invariant-loop-value
invariant-loop-value l =
    (l.self-inside.spent ≡ true) × (l.self-inside.values.rows ≡ l.initial.self-inside.values.rows)
    × (l.self-inside.values.next ≡ longs_in (map val_view (take l.value-index l.values)))
    × All (λ value. is_long value ≡ true) l.self-inside.values.next
