-- What the types of this crate stand for in the definitions.
use Rattle.std.specs.Prelude.{ℕ, List, map}
use Rattle.fc_spec.specs.documents.Val as definition
use Rattle.fc_spec.specs.documents.Schema as schema
use Rattle.fc_base.specs.declared.value.Val.{Val}
use Rattle.fc_base.specs.declared.value.Val.TheVariants.{Text, Long}
use Rattle.fc_base.specs.declared.field.Field.{Field}
use Rattle.fc_base.specs.declared.field.FieldType.{FieldType}
use Rattle.fc_base.specs.declared.field.FieldType.TheVariants as kind

abbrev pub val_view : Val → definition.Val
val_view (Text name) = definition.text name
val_view (Long number) = definition.long number

abbrev pub field_type_view : FieldType → schema.FieldType
field_type_view kind.Str = schema.string
field_type_view kind.Strs = schema.strings
field_type_view kind.Long = schema.plong
field_type_view kind.Longs = schema.plongs
field_type_view kind.Date = schema.pdate
field_type_view kind.Dates = schema.pdates

abbrev pub field_view : Field → schema.Field
field_view f = record { name = f.name; kind = field_type_view f.kind }

-- the schema of so many shards and these fields
abbrev pub schema_with : ℕ → List Field → schema.Schema
schema_with shards fields = record { shards = shards; fields = map field_view fields }
