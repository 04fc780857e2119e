-- Schemas. Guide: Fields and Schema Design, "Field Types".
use Rattle.std.specs.Prelude.{ℕ, List, Bool, true, false, Option, map, position}
use Rattle.fc_spec.specs.documents.Val.{Text, same_text}

-- at most one text, texts, at most one integer, integers, at most one date, dates
pub data FieldType : Type 0 where
  string : FieldType
  strings : FieldType
  plong : FieldType
  plongs : FieldType
  pdate : FieldType
  pdates : FieldType

-- a field of the type holds texts, as dates are by their canonical texts; else it holds integers
abbrev pub holds_texts : FieldType → Bool
holds_texts string = true
holds_texts strings = true
holds_texts plong = false
holds_texts plongs = false
holds_texts pdate = true
holds_texts pdates = true

-- the texts are canonical texts of dates
abbrev pub holds_dates : FieldType → Bool
holds_dates pdate = true
holds_dates pdates = true
holds_dates _ = false

-- a field
pub record Field : Type 0 where
  pub name : Text
  pub kind : FieldType

-- the number of shards, and the fields: `id` first, the others in the byte order of their names; a field's number is its place
pub record Schema : Type 0 where
  pub shards : ℕ
  pub fields : List Field

-- for each field whether it holds texts
abbrev pub texts_held : List Field → List Bool
texts_held fields = map (λ f. holds_texts f.kind) fields

-- the number of the field of this name
abbrev pub field_named : Schema → Text → Option ℕ
field_named s name = position (λ f. same_text name f.name) s.fields
