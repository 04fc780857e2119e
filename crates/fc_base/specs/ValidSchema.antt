-- What schemas there are.
use Rattle.std.specs.Prelude.{◌≡◌, ◌≤◌, All, IsTrue, List, Some, codes, drop, false, length, map, slice_get}
use Rattle.std.specs.List.{list_any}
use Rattle.std.specs.List.Sorted.{IsStrictlySortedBy}
use Rattle.fc_spec.specs.documents.Val.{text_cmp, same_text}
use Rattle.fc_spec.specs.documents.Schema.{Field, Schema, string}
use Rattle.fc_spec.specs.documents.SchemaReading.{is_field_name}

-- the field that every schema has
abbrev pub id_field : Field
id_field = record { name = codes "id"; kind = string }

-- each has a field's name, `id` stands first and nowhere else, the others ascend by their names, and there are at most 256 in all
pub record IsFieldList (fields : List Field) : Type 0 where
  pub names : All (λ f. IsTrue (is_field_name f.name)) fields
  pub id_first : slice_get fields 0 ≡ Some id_field
  pub id_once : list_any (λ f. same_text f.name (codes "id")) (drop 1 fields) ≡ false
  pub ascend : IsStrictlySortedBy text_cmp (map (λ f. f.name) (drop 1 fields))
  pub few : length fields ≤ 256

-- 1 to 64 shards, and such a list of fields
pub record IsValidSchema (s : Schema) : Type 0 where
  pub some_shards : 1 ≤ s.shards
  pub few_shards : s.shards ≤ 64
  pub list : IsFieldList s.fields
