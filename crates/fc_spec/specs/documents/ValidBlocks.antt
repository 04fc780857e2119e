-- Blocks that are valid for a schema.
use Rattle.std.specs.Prelude.{◌≡◌, ℕ, List, length, Bool, not, ◌&&◌, All, IsTrue, Some, slice_get}
use Rattle.fc_spec.specs.documents.Val.{Val, text, long, val_cmp}
use Rattle.fc_spec.specs.documents.Columns.{IsAscending}
use Rattle.fc_spec.specs.documents.Document.{Document, values_of, Block}
use Rattle.fc_spec.specs.documents.Schema.{FieldType, holds_texts, Field, Schema}
use Rattle.fc_spec.specs.documents.IntegerTexts.{is_long}
use Rattle.fc_spec.specs.documents.BlockReading.{is_term, takes}

-- a text for a field of texts, an integer of 64 bits signed for a field of integers
abbrev pub is_of_type : FieldType → Val → Bool
is_of_type kind (text t) = holds_texts kind
is_of_type kind (long z) = not (holds_texts kind) && is_long z

-- such a value, a text of at most 32,766 bytes
abbrev pub is_value_of : FieldType → Val → Bool
is_value_of kind (text t) = is_of_type kind (text t) && is_term t
is_value_of kind (long z) = is_of_type kind (long z)

-- values of the type, different and in index order, at most one where the type has at most one
pub record AreValuesOf (kind : FieldType) (vs : List Val) : Type 0 where
  pub of_type : All (λ v. IsTrue (is_value_of kind v)) vs
  pub ascending : IsAscending val_cmp vs
  pub few : IsTrue (takes kind (length vs))

-- such values for each field of the schema, and one `id`
pub record IsDocumentOf (s : Schema) (d : Document) : Type 0 where
  pub lists : length d ≡ length s.fields
  pub values : (n : ℕ) (f : Field) → slice_get s.fields n ≡ Some f → AreValuesOf f.kind (values_of d n)
  pub id : length (values_of d 0) ≡ 1

-- such documents
pub record IsBlockOf (s : Schema) (b : Block) : Type 0 where
  pub children : All (IsDocumentOf s) b.children
  pub parent : IsDocumentOf s b.parent
