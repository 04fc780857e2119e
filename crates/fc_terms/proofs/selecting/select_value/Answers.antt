use Rattle.std.proofs.Common.{◌≡◌, ◌∙◌, false, length, map, replicate, ap}
use Rattle.fc_base.specs.View.{val_view}
use Rattle.fc_segment.specs.Columns.{column_values}
use Rattle.fc_spec.specs.documents.Val.{has_val}
use Rattle.fc_terms.proofs.PickedPositions.{nothing_where}
use Rattle.fc_terms.proofs.ValueRows.{long_among_texts, text_among_longs}
use Rattle.fc_terms.proofs.selecting.select_value.Goals as goal

pub returns-in-Text-Long : goal.returns-in-Text-Long
returns-in-Text-Long c =
    let values = column_values c.args.column.now in
    let v = val_view c.args.value.now in
    let none : replicate (length values) false ≡ map (has_val v) values = rw (c.in-Text-Long.is-0, c.in-Text-Long.is-1) (long_among_texts c.in-Text-Long.field-0-1 c.in-Text-Long.field-0-0) in
    c.clear.ensures ∙ ap (λ n. replicate n false) c.requires.length ∙ nothing_where (has_val v) values c.args.docs.now c.requires.docs none

pub returns-in-Long-Text : goal.returns-in-Long-Text
returns-in-Long-Text c =
    let values = column_values c.args.column.now in
    let v = val_view c.args.value.now in
    let none : replicate (length values) false ≡ map (has_val v) values = rw (c.in-Long-Text.is-0, c.in-Long-Text.is-1) (text_among_longs c.in-Long-Text.field-0-1 c.in-Long-Text.field-0-0) in
    c.clear-in-Long-Text.ensures ∙ ap (λ n. replicate n false) c.requires.length ∙ nothing_where (has_val v) values c.args.docs.now c.requires.docs none
