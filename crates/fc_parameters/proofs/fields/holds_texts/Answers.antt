use Rattle.std.proofs.Common.{sym, ◌∙◌}
use Rattle.fc_spec.specs.documents.Schema.{holds_texts}
use Rattle.fc_base.specs.View.{field_type_view}
use Rattle.fc_parameters.proofs.FieldTypes.{type_passes}
use Rattle.fc_parameters.proofs.fields.holds_texts.Goals as goal

pub returns : goal.returns
returns c = c.is_of_texts.ensures ∙ sym (type_passes c.args.schema.now holds_texts c.args.field.0 (field_type_view c.field_type.result) c.field_type.ensures)
