-- A document and its children that are read from tokens, as far as a token of them.
use Rattle.std.specs.Prelude.{◌≡◌, ◌≤◌, ◌<◌, ⊤, ℕ, List, [], length, All, Bool, true, false, Option, None, Some, unwrap_or, Ok, slice_get}
use Rattle.std.specs.List.{slice_index_or}
use Rattle.json.specs.Token.{Token}
use Rattle.json.specs.Json.{items, members, read_key, value}
use Rattle.serde_json.specs.Data.{Data, null, Items, Members, no_members, put}
use Rattle.serde_json.specs.Find.{get_member}
use Rattle.serde_json.specs.Read.{converted, of_items, of_members}
use Rattle.fc_spec.specs.documents.Val.{Text, distinct}
use Rattle.fc_spec.specs.documents.Document.{Document}
use Rattle.fc_spec.specs.documents.Schema.{Field, Schema}
use Rattle.fc_spec.specs.documents.BlockReading.{Role, as_parent, as_child, all_items, check_members, child_documents, children_key, document_of, field_values}
use Rattle.fc_spec.specs.documents.ValidBlocks.{AreValuesOf, IsDocumentOf}
use Rattle.fc_spec.specs.words.Walks.{each}
use Rattle.fc_docs.specs.Direct.{Given, Spells, given_to}
use Rattle.fc_docs.specs.declared.direct.fields.Stop.{Stop}
use Rattle.fc_docs.specs.declared.direct.fields.Stop.TheVariants.{End, Children, Other}

-- ---- members

-- these members were read: their values were given to the fields, and no field that wasn't seen has any
pub record AreRead (role : Role) (s : Schema) (found : Members) (given : Given) (seen : List Bool) : Type 0 where
  pub checked : check_members role s found ≡ Ok tt
  pub values : (n : ℕ) (f : Field) → slice_get s.fields n ≡ Some f → distinct (given_to n given) ≡ field_values found f
  pub valid : (n : ℕ) (f : Field) → slice_get s.fields n ≡ Some f → AreValuesOf f.kind (distinct (given_to n given))
  pub unseen : (n : ℕ) → slice_index_or seen n true ≡ false → given_to n given ≡ []
  pub within : All (λ p. p.0 < length s.fields) given

-- the value at the front of the tokens is read as that of one more member of this key
pub record GivesMember (s : Schema) (key : Text) (old new : List Token) (given after : Given) (seen seen_after : List Bool) : Type 0 where
  pub said : Data
  pub spells : Spells 1 old new said
  pub read : (role : Role) (found : Members) → AreRead role s found given seen → AreRead role s (put key said found) after seen_after

-- the members at the front of the tokens, up to others, are read behind those that were found; none has the children
pub record GoesOver (role : Role) (s : Schema) (found : Members) (old new : List Token) (given : Given) (seen : List Bool) : Type 0 where
  pub all : Members
  pub read : AreRead role s all given seen
  pub children : get_member children_key all ≡ get_member children_key found
  pub over : (depth n : ℕ) → 1 ≤ depth → length old ≤ n
      → (m : ℕ) × (length new ≤ m) × (converted (λ ms. of_members ms found) (members (value depth) n old) ≡ converted (λ ms. of_members ms all) (members (value depth) m new))

-- they are, whatever was found
pub record ReadTo (s : Schema) (old new : List Token) (given after : Given) (seen seen_after : List Bool) : Type 0 where
  pub fewer : length new ≤ length old
  pub goes : (role : Role) (found : Members) → AreRead role s found given seen → GoesOver role s found old new after seen_after

-- they are read up to this key, or to the end of the object
pub record StopsAt (s : Schema) (key : Option Text) (old new : List Token) (given after : Given) (seen seen_after : List Bool) : Type 0 where
  pub before : List Token
  pub stop : read_key before ≡ Some (key, new)
  pub so_far : ReadTo s old before given after seen seen_after

abbrev pub Stops : Stop → Schema → List Token → List Token → Given → Given → List Bool → List Bool → Type 0
Stops End s old new given after seen seen_after = StopsAt s None old new given after seen seen_after
Stops Children s old new given after seen seen_after = StopsAt s (Some children_key) old new given after seen seen_after
Stops Other s old new given after seen seen_after = ⊤

-- ---- children

-- the value at the front of the tokens is this child
pub record GivesChild (s : Schema) (old new : List Token) (d : Document) : Type 0 where
  pub said : Data
  pub spells : Spells 2 old new said
  pub document : document_of as_child s said ≡ Ok d
  pub valid : IsDocumentOf s d

-- the items at the front of the tokens, up to the end of the array, are these children
pub record GivesEach (s : Schema) (old new : List Token) (ds : List Document) : Type 0 where
  pub said : Items
  pub ends : (depth : ℕ) → 2 ≤ depth → converted of_items (items (value depth) (length old) old) ≡ Some (said, new)
  pub documents : each (document_of as_child s) (all_items said) ≡ Ok ds
  pub valid : All (IsDocumentOf s) ds

-- the value at the front of the tokens is that of these children
pub record GivesChildren (s : Schema) (old new : List Token) (ds : List Document) : Type 0 where
  pub said : Data
  pub spells : Spells 3 old new said
  pub documents : child_documents s said ≡ Ok ds
  pub valid : All (IsDocumentOf s) ds

-- the value at the front of the tokens is that of these children, and behind it members are read up to the end of the object
pub record GivesRest (s : Schema) (old new : List Token) (given after : Given) (seen seen_after : List Bool) (ds : List Document) : Type 0 where
  pub middle : List Token
  pub children : GivesChildren s old middle ds
  pub shorter : length middle < length old
  pub rest : StopsAt s None middle new given after seen seen_after

-- the members at the front of the tokens, up to the end of the object, are those of a parent of these children
pub record GivesFamily (s : Schema) (old new : List Token) (given : Given) (seen : List Bool) (ds : List Document) : Type 0 where
  pub all : Members
  pub read : AreRead as_parent s all given seen
  pub documents : child_documents s (unwrap_or (get_member children_key all) null) ≡ Ok ds
  pub valid : All (IsDocumentOf s) ds
  pub ends : (depth : ℕ) → 3 ≤ depth → converted (λ ms. of_members ms no_members) (members (value depth) (length old) old) ≡ Some (all, new)
