use Rattle.std.proofs.Common.{◌≡◌, [], ◌∷◌, map}
use Rattle.serde_json.specs.View.{members_view}
use Rattle.fc_base.specs.ValidSchema.{id_field}
use Rattle.fc_base.specs.View.{field_view}
use Rattle.fc_base.proofs.GatheredFields.{gathered}
use Rattle.fc_base.proofs.schema.read.read_fields.Given as goal

abbrev pub invariant-loop-name : goal.invariant-loop-name
invariant-loop-name l =
    gathered (id_field ∷ []) (members_view l.members.entries) ≡ gathered (map field_view l.fields.items) (members_view l.name-iterator)
