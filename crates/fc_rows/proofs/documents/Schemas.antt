-- What schemas JSON values are.
use Rattle.std.specs.Prelude.{ℕ, ◌≡◌, [], ◌∷◌, replicate, length, true, false, None, Some, option_map, refl, codes}
use Prim.Native.String.{String}
use Rattle.serde_json.specs.Data.{Data, null, number, unsigned, string as json_string, array, object, no_items, Members, no_members, member}
use Rattle.fc_spec.specs.documents.Schema.{FieldType, string, strings, plong, plongs, Field}
use Rattle.fc_spec.specs.documents.SchemaReading.{is_field_name, with_id, schema_of}

abbrev field : String → FieldType → Field
field name kind = record { name = codes name; kind = kind }

-- a member of `fields`
abbrev typed : String → String → Members → Members
typed name kind ms = member (codes name) (json_string (codes kind)) ms

-- `{"fields":F,"shards":N}`
abbrev schema_data : Members → Data → Data
schema_data fields shards = object (member (codes "fields") (object fields) (member (codes "shards") shards no_members))

abbrev IsBad : Data → Type 0
IsBad d = schema_of d ≡ None

abbrev of_shards : ℕ → Data
of_shards n = schema_data no_members (number (unsigned n))

-- with one field of this name
abbrev with_name : String → Data
with_name name = schema_data (typed name "plong" no_members) (number (unsigned 1))

-- ---- `id` comes first, and then the fields in the order of the members
pub four_types : schema_of (schema_data (typed "A" "plongs" (typed "_b" "plong" (typed "id" "string" (typed "x_" "strings" (typed "z9" "string" no_members))))) (number (unsigned 2)))
    ≡ Some (record { shards = 2; fields = field "id" string ∷ field "A" plongs ∷ field "_b" plong ∷ field "x_" strings ∷ field "z9" string ∷ [] })
four_types = refl

pub one_to_64_shards :
    (schema_of (of_shards 1) ≡ Some (record { shards = 1; fields = field "id" string ∷ [] }))
    × (schema_of (of_shards 64) ≡ Some (record { shards = 64; fields = field "id" string ∷ [] }))
    × IsBad (of_shards 0)
    × IsBad (of_shards 65)
one_to_64_shards = (refl, refl, refl, refl)

pub id_of_another_type : IsBad (schema_data (typed "id" "strings" no_members) (number (unsigned 1)))
id_of_another_type = refl

pub another_type : IsBad (schema_data (typed "a" "text" no_members) (number (unsigned 1))) × IsBad (schema_data (member (codes "a") null no_members) (number (unsigned 1)))
another_type = (refl, refl)

pub fields_no_object : IsBad (object (member (codes "fields") (array no_items) (member (codes "shards") (number (unsigned 1)) no_members)))
fields_no_object = refl

pub a_third_member : IsBad (object (member (codes "fields") (object no_members) (member (codes "more") null (member (codes "shards") (number (unsigned 1)) no_members))))
a_third_member = refl

pub another_second_member : IsBad (object (member (codes "fields") (object no_members) (member (codes "shard") (number (unsigned 1)) no_members)))
another_second_member = refl

-- ---- names
pub bad_names : IsBad (with_name "") × IsBad (with_name "9a") × IsBad (with_name "_a_") × IsBad (with_name "_") × IsBad (with_name "__") × IsBad (with_name "a-b") × IsBad (with_name "a.b") × IsBad (with_name "a b") × IsBad (with_name "é")
bad_names = (refl, refl, refl, refl, refl, refl, refl, refl, refl)

-- the bytes of names, and their neighbours
pub first_and_last : is_field_name (codes "azAZ09_z") ≡ true
first_and_last = refl

pub neighbours : (is_field_name (codes "a`") ≡ false) × (is_field_name (codes "a{") ≡ false) × (is_field_name (codes "a@") ≡ false) × (is_field_name (codes "a[") ≡ false) × (is_field_name (codes "a/") ≡ false) × (is_field_name (codes "a:") ≡ false)
neighbours = (refl, refl, refl, refl, refl, refl)

pub longest_name : is_field_name (replicate 64 97) ≡ true
longest_name = refl

pub longer_name : is_field_name (replicate 65 97) ≡ false
longer_name = refl

-- ---- at most 256 fields with `id`, whether it is named or not
pub most_fields : option_map (λ fs. length fs) (with_id (replicate 255 (field "a" plong))) ≡ Some 256
most_fields = refl

pub most_fields_with_id : option_map (λ fs. length fs) (with_id (field "id" string ∷ replicate 255 (field "a" plong))) ≡ Some 256
most_fields_with_id = refl

pub more_fields : with_id (replicate 256 (field "a" plong)) ≡ None
more_fields = refl
