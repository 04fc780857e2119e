-- What the tokens of a JSON text give to documents, where no tree of it is made.
use Rattle.std.specs.Prelude.{◌≡◌, ◌≤◌, ◌==◌, ℕ, List, [], ◌∷◌, length, map, All, IsTrue, true, Option, Some, None, option_map, Ok, if◌then◌else◌}
use Rattle.std.specs.List.{range_with_len}
use Rattle.json.specs.Token as token
use Rattle.json.specs.Json as json
use Rattle.serde_json.specs.Data as tree
use Rattle.serde_json.specs.Data.{Data}
use Rattle.serde_json.specs.Read.{converted, of_json, number_of}
use Rattle.fc_spec.specs.documents.Val.{Val, distinct}
use Rattle.fc_spec.specs.documents.Document.{Document, Block}
use Rattle.fc_spec.specs.documents.Schema.{FieldType, Schema}
use Rattle.fc_spec.specs.documents.BlockReading.{block_of, items_in, takes, value_of}
use Rattle.fc_spec.specs.documents.ValidBlocks.{IsBlockOf, is_value_of}
use Rattle.fc_spec.specs.words.Walks.{each}
use Rattle.fc_base.specs.declared.field.FieldId.{FieldId}
use Rattle.fc_base.specs.declared.value.Val as code
use Rattle.fc_base.specs.View.{val_view}

-- ---- tokens

-- what a token is by itself; those that open or close something are nothing by themselves
abbrev pub data_of : token.Token → Option Data
data_of (token.string s) = Some (tree.string s)
data_of (token.number s) = option_map tree.number (number_of s)
data_of (token.boolean b) = Some (tree.boolean b)
data_of token.null = Some tree.null
data_of _ = None

-- of the tokens `old`, the first ones spell a value, as far as so many levels may nest in it, and `new` are behind them
abbrev pub Spells : ℕ → List token.Token → List token.Token → Data → Type 0
Spells levels old new d = (depth : ℕ) → levels ≤ depth → converted of_json (json.value depth old) ≡ Some (d, new)

-- ---- values, each given to a field

abbrev pub Given : Type 0
Given = List (ℕ × Val)

abbrev pub given_view : List (FieldId × code.Val) → Given
given_view pairs = map (λ p. (p.0.0, val_view p.1)) pairs

-- these values, each given to the field
abbrev pub giving : ℕ → List Val → Given
giving n vs = map (λ v. (n, v)) vs

-- those that were given to a field
abbrev pub given_to : ℕ → Given → List Val
given_to n [] = []
given_to n (p ∷ ps) = if n == p.0 then p.1 ∷ given_to n ps else given_to n ps

-- the document of so many fields that has them
abbrev pub document_given : ℕ → Given → Document
document_given fields ps = map (λ n. distinct (given_to n ps)) (range_with_len 0 fields)

-- ---- what was read

-- the token is this value in a field of this type
pub record GivesItem (kind : FieldType) (t : token.Token) (v : Val) : Type 0 where
  pub said : Data
  pub is : data_of t ≡ Some said
  pub value : value_of kind said ≡ Ok v
  pub valid : IsTrue (is_value_of kind v)

-- the value at the front of the tokens gives these values to a field of this type
pub record GivesValues (kind : FieldType) (old new : List token.Token) (vs : List Val) : Type 0 where
  pub said : Data
  pub spells : Spells 1 old new said
  pub values : each (value_of kind) (items_in said) ≡ Ok vs
  pub few : takes kind (length vs) ≡ true
  pub valid : All (λ v. IsTrue (is_value_of kind v)) vs

-- the value at the front of the tokens is this block
pub record GivesBlock (s : Schema) (old new : List token.Token) (b : Block) : Type 0 where
  pub said : Data
  pub spells : Spells 4 old new said
  pub block : block_of s said ≡ Ok b
  pub valid : IsBlockOf s b
