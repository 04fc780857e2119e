-- Blocks as JSON says them, and the first fault of other values.
use Rattle.std.specs.Prelude.{replicate, ◌++◌, Float, ◌≡◌, refl, pos, negsuc, [], ◌∷◌, codes, true, None, Some, Ok, Err}
use Rattle.std.specs.Fmt.{digits}
use Rattle.serde_json.specs.Data.{Data, null, boolean, number, unsigned, negative, float, string as json_string, array, object, no_items, item, Members, no_members, member}
use Rattle.fc_spec.specs.documents.Val.{Text, text, long}
use Rattle.fc_spec.specs.documents.DocFault.{DocFault, unknown_field, wrong_type, too_many_values, no_id, long_term, deep_children}
use Rattle.fc_spec.specs.documents.Schema.{FieldType, string, strings, plong, plongs, Field, Schema}
use Rattle.fc_spec.specs.documents.IntegerTexts.{long_of}
use Rattle.fc_spec.specs.documents.BlockReading.{block_of, value_of, values_for}

abbrev field : Text → FieldType → Field
field name kind = record { name = name; kind = kind }

-- `id`, and one field of each type
abbrev pub shelf : Schema
shelf = record { shards = 1; fields = field (codes "id") string ∷ field (codes "cat") string ∷ field (codes "n") plong ∷ field (codes "ns") plongs ∷ field (codes "tags") strings ∷ [] }

abbrev id_seven : Members
id_seven = member (codes "id") (number (unsigned 7)) no_members

abbrev children : Data → Members → Members
children d ms = member (codes "_childDocuments_") d ms

-- ---- `{"id":7,"cat":null}` is a parent whose id is the text 7
pub number_for_id : block_of shelf (object (member (codes "cat") null id_seven)) ≡ Ok (record { children = []; parent = (text (codes "7") ∷ []) ∷ [] ∷ [] ∷ [] ∷ [] ∷ [] })
unfolding digits
number_for_id = refl

-- ---- nulls are passed over, equal values are kept once, and values stand in index order
pub values_in_order : block_of shelf (object (member (codes "cat") (array (item null (item (json_string (codes "x")) no_items))) (member (codes "id") (json_string (codes "7"))
    (member (codes "ns") (array (item (number (unsigned 9)) (item (json_string (codes "-10")) (item (json_string (codes "09")) no_items)))) (member (codes "tags") (array no_items) no_members)))))
    ≡ Ok (record { children = []; parent = (text (codes "7") ∷ []) ∷ (text (codes "x") ∷ []) ∷ [] ∷ (long (negsuc 9) ∷ long (pos 9) ∷ []) ∷ [] ∷ [] })
values_in_order = refl

pub several_texts : block_of shelf (object (member (codes "id") (number (unsigned 7)) (member (codes "tags") (array (item (json_string (codes "b")) (item (json_string (codes "a")) (item (json_string (codes "b")) no_items)))) no_members)))
    ≡ Ok (record { children = []; parent = (text (codes "7") ∷ []) ∷ [] ∷ [] ∷ [] ∷ (text (codes "a") ∷ text (codes "b") ∷ []) ∷ [] })
unfolding digits
several_texts = refl

-- ---- children stand before their parent, and names that begin and end with `_` are passed over
pub one_child : block_of shelf (object (children (array (item (object (children (array no_items) (member (codes "id") (json_string (codes "c")) no_members))) no_items)) (member (codes "_version_") (boolean true) (member (codes "id") (json_string (codes "p")) no_members))))
    ≡ Ok (record { children = ((text (codes "c") ∷ []) ∷ [] ∷ [] ∷ [] ∷ [] ∷ []) ∷ []; parent = (text (codes "p") ∷ []) ∷ [] ∷ [] ∷ [] ∷ [] ∷ [] })
one_child = refl

-- ---- which texts spell integers
pub with_a_zero_in_front : long_of (codes "-007") ≡ Some (negsuc 6)
with_a_zero_in_front = refl

pub minus_zero : long_of (codes "-0") ≡ Some (pos 0)
minus_zero = refl

pub least : long_of (codes "-9223372036854775808") ≡ Some (negsuc 9_223_372_036_854_775_807)
least = refl

pub greatest : long_of (codes "9223372036854775807") ≡ Some (pos 9_223_372_036_854_775_807)
greatest = refl

pub past_the_greatest : long_of (codes "9223372036854775808") ≡ None
past_the_greatest = refl

pub below_the_least : long_of (codes "-9223372036854775809") ≡ None
below_the_least = refl

pub with_a_plus : long_of (codes "+5") ≡ None
with_a_plus = refl

pub no_digit : long_of (codes "-") ≡ None
no_digit = refl

pub no_text : long_of [] ≡ None
no_text = refl

pub with_a_space : long_of (codes " 5") ≡ None
with_a_space = refl

pub two_signs : long_of (codes "--5") ≡ None
two_signs = refl

-- ---- items: a whole number of 64 bits signed and no other number
pub negative_as_text : value_of strings (number (negative (negsuc 41))) ≡ Ok (text (codes "-42"))
unfolding digits
negative_as_text = refl

pub wide_number_as_text : value_of string (number (unsigned 9_223_372_036_854_775_808)) ≡ Err wrong_type
wide_number_as_text = refl

pub wide_number : value_of plong (number (unsigned 9_223_372_036_854_775_808)) ≡ Err wrong_type
wide_number = refl

pub word_for_integer : value_of plongs (json_string (codes "x")) ≡ Err wrong_type
word_for_integer = refl

pub truth_for_text : value_of strings (boolean true) ≡ Err wrong_type
truth_for_text = refl

-- ---- the first fault of a document
abbrev fault_of : Members → DocFault → Type 0
fault_of ms e = block_of shelf (object ms) ≡ Err e

abbrev two_items : Data
two_items = array (item (json_string (codes "x")) (item (json_string (codes "x")) no_items))

pub no_object : block_of shelf (array no_items) ≡ Err wrong_type
no_object = refl

pub without_id : fault_of no_members no_id
without_id = refl

pub null_id : fault_of (member (codes "id") null no_members) no_id
null_id = refl

pub id_in_an_empty_array : fault_of (member (codes "id") (array no_items) no_members) no_id
id_in_an_empty_array = refl

-- equal items are two items
pub two_of_one : fault_of (member (codes "cat") two_items id_seven) too_many_values
two_of_one = refl

pub two_integers : fault_of (member (codes "n") (array (item (number (unsigned 1)) (item (number (unsigned 2)) no_items))) id_seven) too_many_values
two_integers = refl

pub list_in_a_list : fault_of (member (codes "tags") (array (item (array no_items) no_items)) id_seven) wrong_type
list_in_a_list = refl

-- an item's fault stands before the number of items
pub item_before_number : fault_of (member (codes "n") (array (item (number (unsigned 1)) (item (boolean true) no_items))) id_seven) wrong_type
item_before_number = refl

-- a lone `_` is no name to pass over
pub lone_underscore : fault_of (member (codes "_") null id_seven) unknown_field
lone_underscore = refl

pub two_underscores : block_of shelf (object (member (codes "__") null id_seven)) ≡ block_of shelf (object id_seven)
two_underscores = refl

-- ---- a parent's own faults, its id among them, stand before its children
pub parent_first : fault_of (children (boolean true) (member (codes "cat") two_items no_members)) too_many_values
parent_first = refl

pub id_before_children : fault_of (children (boolean true) no_members) no_id
id_before_children = refl

pub children_no_list : fault_of (children (object no_members) id_seven) wrong_type
children_no_list = refl

pub null_child : fault_of (children (array (item null no_items)) id_seven) wrong_type
null_child = refl

pub null_children : block_of shelf (object (children null id_seven)) ≡ block_of shelf (object id_seven)
null_children = refl

-- ---- a child with children: its members count in the byte order of their keys
abbrev child : Members → Members
child ms = children (array (item (object ms) no_items)) id_seven

abbrev some_children : Data
some_children = array (item null no_items)

pub deep : fault_of (child (children some_children (member (codes "cat") two_items no_members))) deep_children
deep = refl

pub deep_by_an_object : fault_of (child (children (object no_members) no_members)) deep_children
deep_by_an_object = refl

pub unknown_before_deep : fault_of (child (member (codes "Zed") null (children some_children no_members))) unknown_field
unknown_before_deep = refl

pub child_without_id : fault_of (child (member (codes "cat") null no_members)) no_id
child_without_id = refl

-- null names no child, as an array without items
pub child_with_null : block_of shelf (object (child (children null id_seven))) ≡ block_of shelf (object (child id_seven))
child_with_null = refl

-- ---- a number with a point or an exponent, `-0`, and one beyond 64 bits are floats, and no item
pub float_for_integer : (x : Float) → value_of plong (number (float x)) ≡ Err wrong_type
float_for_integer x = refl

pub float_for_text : (x : Float) → value_of strings (number (float x)) ≡ Err wrong_type
float_for_text x = refl

-- ---- the most bytes of a text; an item's kind is judged before its length
pub longest_text : value_of string (json_string (replicate 32766 97)) ≡ Ok (text (replicate 32766 97))
longest_text = refl

pub too_long_text : value_of string (json_string (replicate 32767 97)) ≡ Err long_term
too_long_text = refl

pub longest_integer : value_of plong (json_string (replicate 32765 48 ++ 53 ∷ [])) ≡ Ok (long (pos 5))
longest_integer = refl

pub too_long_integer : value_of plong (json_string (replicate 32766 48 ++ 53 ∷ [])) ≡ Err long_term
too_long_integer = refl

pub too_long_word_for_integer : value_of plongs (json_string (replicate 32767 97)) ≡ Err wrong_type
too_long_word_for_integer = refl

pub too_long_before_too_many : values_for string (array (item (json_string (replicate 32767 97)) (item (json_string []) no_items))) ≡ Err long_term
too_long_before_too_many = refl

-- ---- keys that are no field
pub empty_key : fault_of (member [] (boolean true) id_seven) unknown_field
empty_key = refl

pub underscore_in_front_alone : fault_of (member (codes "_x") (boolean true) id_seven) unknown_field
underscore_in_front_alone = refl

pub underscore_behind_alone : fault_of (member (codes "x_") (boolean true) id_seven) unknown_field
underscore_behind_alone = refl
