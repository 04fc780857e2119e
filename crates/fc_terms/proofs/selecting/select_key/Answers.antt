use Rattle.std.proofs.Common.{◌∙◌, ◌&&◌, length, map, sym, ap}
use Rattle.std.proofs.lemmas.List.{length-map}
use Rattle.fc_base.specs.View.{val_view}
use Rattle.fc_segment.specs.Columns.{column_values}
use Rattle.fc_spec.specs.documents.Val.{has_val}
use Rattle.fc_spec.proofs.words.WhereTrue.{length-zip_with}
use Rattle.fc_terms.proofs.selecting.select_key.Goals as goal

pub returns-clause-kept : goal.returns-clause-kept
returns-clause-kept c =
    let column = column_values c.args.column.now in
    let passing = map (has_val (val_view c.in-Value.value)) column in
    ap length c.select_value.ensures
    ∙ length-zip_with ◌&&◌ c.args.docs.now passing (c.requires.docs ∙ sym (length-map column (has_val (val_view c.in-Value.value))))
    ∙ c.requires.docs ∙ sym c.requires.length
