-- What block a JSON value is, or the first fault of a walk over it: the document, its members in the byte order of their keys, the items of each in order, then the children. Guide: Indexing Nested Child Documents.
use Rattle.std.specs.Prelude.{ℕ, List, [], ◌∷◌, length, map, codes, Bool, true, false, not, ◌&&◌, nat_le, Option, option_map, option_and_then, unwrap_or, ok_or, slice_get, Result, Ok, Err, if◌then◌else◌}
use Rattle.std.specs.Result.{result_unwrap_or}
use Rattle.serde_json.specs.Data.{Data, null, number, string as json_string, array, object, Items, no_items, item, Members, no_members, member}
use Rattle.serde_json.specs.Find.{get, get_member, as_i64}
use Rattle.fc_spec.specs.documents.Val.{Text, same_text, Val, text, long, distinct}
use Rattle.fc_spec.specs.words.Lists.{is_empty}
use Rattle.fc_spec.specs.documents.Document.{Document, values_of, Block}
use Rattle.fc_spec.specs.documents.Schema.{FieldType, string, strings, plong, plongs, pdate, pdates, Field, Schema, field_named}
use Rattle.fc_spec.specs.documents.SchemaReading.{is_underscored}
use Rattle.fc_spec.specs.documents.IntegerTexts.{decimal_text, long_of}
use Rattle.fc_spec.specs.dates.DateTexts.{canonical_of}
use Rattle.fc_spec.specs.documents.DocFault.{DocFault, unknown_field, wrong_type, too_many_values, no_id, long_term, deep_children}
use Rattle.fc_spec.specs.words.Walks.{◌>>=◌, unless, each}

-- a text of at most 32,766 bytes
abbrev pub is_term : Text → Bool
is_term t = nat_le (length t) 32766

-- what a text stands for, where it is short enough
abbrev pub short : Text → Val → Result Val DocFault
short t v = if is_term t then Ok v else Err long_term

-- an item of a field of texts: a text, or a whole number of 64 bits signed, which stands for its decimal text
abbrev pub text_item : Data → Result Val DocFault
text_item (json_string t) = short t (text t)
text_item (number n) = ok_or (option_map (λ z. text (decimal_text z)) (as_i64 n)) wrong_type
text_item _ = Err wrong_type

-- an item of a field of integers: a whole number of 64 bits signed, or a text that spells one
abbrev pub long_item : Data → Result Val DocFault
long_item (json_string t) = do
  z ← ok_or (long_of t) wrong_type
  short t (long z)
long_item (number n) = ok_or (option_map long (as_i64 n)) wrong_type
long_item _ = Err wrong_type

-- an item of a field of dates: a date text, which stands for its canonical text
abbrev pub date_item : Data → Result Val DocFault
date_item (json_string t) = ok_or (option_map text (canonical_of t)) wrong_type
date_item _ = Err wrong_type

abbrev pub value_of : FieldType → Data → Result Val DocFault
value_of string d = text_item d
value_of strings d = text_item d
value_of plong d = long_item d
value_of plongs d = long_item d
value_of pdate d = date_item d
value_of pdates d = date_item d

-- the items without the nulls
abbrev pub without_nulls : Items → List Data
without_nulls no_items = []
without_nulls (item null ds) = without_nulls ds
without_nulls (item d ds) = d ∷ without_nulls ds

-- the items of a member: none where it is null, those of an array, else the value itself
abbrev pub items_in : Data → List Data
items_in null = []
items_in (array ds) = without_nulls ds
items_in d = d ∷ []

-- whether a field may have so many items: the single types at most one
abbrev pub takes : FieldType → ℕ → Bool
takes string n = nat_le n 1
takes strings n = true
takes plong n = nat_le n 1
takes plongs n = true
takes pdate n = nat_le n 1
takes pdates n = true

-- the different values of a member, in index order
abbrev pub values_for : FieldType → Data → Result (List Val) DocFault
values_for kind d = do
  vs ← each (value_of kind) (items_in d)
  _ ← unless (takes kind (length vs)) too_many_values
  Ok (distinct vs)

-- the type of the field of this name
abbrev pub type_in : Schema → Text → Option FieldType
type_in s name = option_and_then (λ n. option_map (λ f. f.kind) (slice_get s.fields n)) (field_named s name)

abbrev pub children_key : Text
children_key = codes "_childDocuments_"

-- null, or an array without items
abbrev pub holds_nothing : Data → Bool
holds_nothing null = true
holds_nothing (array no_items) = true
holds_nothing _ = false

-- whether a document is a block's parent, which may have children, or a child, which may not
pub data Role : Type 0 where
  as_parent : Role
  as_child : Role

-- the children of a parent are read after it
abbrev pub check_children : Role → Data → Result (List Val) DocFault
check_children as_parent d = Ok []
check_children as_child d = if holds_nothing d then Ok [] else Err deep_children

-- the values that a member gives; other keys that begin and end with `_` are passed over
abbrev pub member_values : Role → Schema → Text → Data → Result (List Val) DocFault
member_values role s key d =
    if same_text key children_key then check_children role d
    else (if nat_le 2 (length key) && is_underscored key then Ok []
    else (ok_or (type_in s key) unknown_field >>= λ kind. values_for kind d))

-- the fault of the first member that has one
abbrev pub check_members : Role → Schema → Members → Result (Unit {0}) DocFault
check_members role s no_members = Ok tt
check_members role s (member key d ms) = do
  _ ← member_values role s key d
  check_members role s ms

-- the values of a field: those of the member of its name, where there is one
abbrev pub field_values : Members → Field → List Val
field_values ms f = unwrap_or (option_map (λ d. result_unwrap_or (values_for f.kind d) []) (get_member f.name ms)) []

abbrev pub document_of_members : Role → Schema → Members → Result Document DocFault
document_of_members role s ms = do
  _ ← check_members role s ms
  let d = map (field_values ms) s.fields in unless (not (is_empty (values_of d 0))) no_id >>= λ _. Ok d

-- a document: an object with an `id`
abbrev pub document_of : Role → Schema → Data → Result Document DocFault
document_of role s (object ms) = document_of_members role s ms
document_of role s _ = Err wrong_type

abbrev pub all_items : Items → List Data
all_items no_items = []
all_items (item d ds) = d ∷ all_items ds

-- the children of a parent, which are null or an array
abbrev pub child_documents : Schema → Data → Result (List Document) DocFault
child_documents s null = Ok []
child_documents s (array ds) = each (document_of as_child s) (all_items ds)
child_documents s _ = Err wrong_type

-- the block that a value is, or its first fault: the parent's, then the children's
abbrev pub block_of : Schema → Data → Result Block DocFault
block_of s d = do
  parent ← document_of as_parent s d
  children ← child_documents s (unwrap_or (get children_key d) null)
  Ok (record { children = children; parent = parent })
