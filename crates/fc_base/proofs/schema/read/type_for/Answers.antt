use Rattle.std.proofs.Common.{◌≡◌, false, nat_eq, Some, refl}
use Rattle.std.specs.Cmp.Lexicographic.{pointwise}
use Rattle.std.proofs.lemmas.Map.Text.{is_eq-slice_cmp}
use Rattle.std.specs.Prelude.{codes}
use Rattle.fc_spec.specs.documents.Val.{Text}
use Rattle.fc_spec.specs.documents.SchemaReading.{type_for}
use Rattle.fc_base.specs.declared.field.FieldType.{FieldType}
use Rattle.fc_base.specs.declared.field.FieldType.TheVariants.{Str, Strs, Long, Longs, Date, Dates}
use Rattle.fc_base.specs.View.{field_type_view}
use Rattle.fc_base.proofs.schema.read.type_for.Goals as goal

for_another : (name : Text) (kind : FieldType) → false ≡ pointwise nat_eq name (codes "id") → Some (field_type_view kind) ≡ type_for name (field_type_view kind)
for_another name Str other = refl
for_another name Strs other = rw (is_eq-slice_cmp, ← other) refl
for_another name Long other = rw (is_eq-slice_cmp, ← other) refl
for_another name Longs other = rw (is_eq-slice_cmp, ← other) refl
for_another name Date other = rw (is_eq-slice_cmp, ← other) refl
for_another name Dates other = rw (is_eq-slice_cmp, ← other) refl

pub returns-in_default-2 : goal.returns-in_default-2
returns-in_default-2 c = for_another c.args.name.now c.args.kind c.if-eq.ensures
