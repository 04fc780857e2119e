-- What schema a JSON value is. Guide: Fields and Schema Design.
use Rattle.std.specs.Prelude.{ℕ, ◌+◌, ◌-◌, List, [], ◌∷◌, length, codes, slice_index, Bool, not, ◌&&◌, ◌||◌, ◌==◌, nat_le, Option, None, Some, option_and_then, option_map, if◌then◌else◌}
use Rattle.std.specs.List.{list_all}
use Rattle.serde_json.specs.Data.{Data, Members, no_members, member}
use Rattle.serde_json.specs.Find.{get_member, as_str, as_object}
use Rattle.fc_spec.specs.documents.Val.{Text, same_text}
use Rattle.fc_spec.specs.documents.Schema.{FieldType, string, strings, plong, plongs, pdate, pdates, Field, Schema}
use Rattle.fc_spec.specs.scripts.JsonObjects.{member_count, natural_in}

-- the byte is from one to another, both included
abbrev pub is_byte_in : (low high : ℕ) → ℕ → Bool
is_byte_in low high b = nat_le low b && nat_le b high

abbrev pub is_digit : ℕ → Bool
is_digit b = is_byte_in 48 57 b

-- an ASCII letter or digit, or `_`
abbrev pub is_name_byte : ℕ → Bool
is_name_byte b = is_byte_in 65 90 b || is_byte_in 97 122 b || is_digit b || (b == 95)

-- it begins and ends with `_`
abbrev pub is_underscored : Text → Bool
is_underscored t = (slice_index t 0 == 95) && (slice_index t (length t - 1) == 95)

-- 1 to 64 bytes of ASCII letters, digits and `_` that do not begin with a digit, nor both begin and end with `_`
abbrev pub is_field_name : Text → Bool
is_field_name t = nat_le 1 (length t) && nat_le (length t) 64 && list_all is_name_byte t && not (is_digit (slice_index t 0)) && not (is_underscored t)

-- the type of this name
abbrev pub type_named : Text → Option FieldType
type_named t =
    if same_text t (codes "string") then Some string else (if same_text t (codes "strings") then Some strings else (if same_text t (codes "plong") then Some plong else (if same_text t (codes "plongs") then Some plongs else (if same_text t (codes "pdate") then Some pdate else (if same_text t (codes "pdates") then Some pdates else None)))))

abbrev pub type_of : Data → Option FieldType
type_of d = option_and_then type_named (as_str d)

-- `id` has the type `string`
abbrev pub type_for : Text → FieldType → Option FieldType
type_for name string = Some string
type_for name t = if same_text name (codes "id") then None else Some t

-- a field of this name and type, where both are good
abbrev pub field_of : Text → Data → Option Field
field_of name d = if is_field_name name then option_map (λ kind. record { name = name; kind = kind }) (option_and_then (type_for name) (type_of d)) else None

-- the fields that the members name, in their order, which is the byte order of their names; none where one is bad
abbrev pub fields_of : Members → Option (List Field)
fields_of no_members = Some []
fields_of (member name d ms) = option_and_then (λ f. option_map (λ fs. f ∷ fs) (fields_of ms)) (field_of name d)

-- the fields without `id`
abbrev pub without_id : List Field → List Field
without_id [] = []
without_id (f ∷ fs) = if same_text f.name (codes "id") then without_id fs else f ∷ without_id fs

-- `id`, which is always there, and then the others; at most 256 in all
abbrev pub with_id : List Field → Option (List Field)
with_id fs = if nat_le (length (without_id fs) + 1) 256 then Some (record { name = codes "id"; kind = string } ∷ without_id fs) else None

-- a whole number from 1 to 64
abbrev pub shards_of : Data → Option ℕ
shards_of d = option_and_then (λ n. if nat_le 1 n && nat_le n 64 then Some n else None) (natural_in d)

-- an object of the two members `shards` and `fields`
abbrev pub schema_of_members : Members → Option Schema
schema_of_members ms =
    option_and_then (λ shards. option_map (λ fields. record { shards = shards; fields = fields })
    (option_and_then with_id (option_and_then fields_of (option_and_then as_object (get_member (codes "fields") ms)))))
    (option_and_then shards_of (get_member (codes "shards") ms))

-- the schema, or none where the value is a bad one
abbrev pub schema_of : Data → Option Schema
schema_of d = option_and_then (λ ms. if member_count ms == 2 then schema_of_members ms else None) (as_object d)
