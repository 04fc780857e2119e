use Rattle.std.proofs.Common.{◌≡◌, take, map, true}
use Rattle.fc_base.specs.View.{val_view}
use Rattle.fc_spec.specs.documents.Columns.{texts_in}
use Rattle.fc_column.proofs.Grown.{Grown}
use Rattle.fc_column.proofs.builder.TextBuilder.push_doc.Given as goal

abbrev pub invariant-loop-value : goal.invariant-loop-value
invariant-loop-value l =
    (l.self-inside.spent ≡ true) × (l.self-inside.rows.rows ≡ l.initial.self-inside.rows.rows)
    × Grown l.initial.self-inside.numbers.entries l.self-inside.numbers.entries l.self-inside.rows.next (texts_in (map val_view (take l.value-index l.values)))
