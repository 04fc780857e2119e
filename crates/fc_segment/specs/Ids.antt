-- The positions of parents by the texts of field 0.
use Rattle.std.specs.Prelude.{◌≡◌, ◌<◌, ℕ, List, [], length, map, replicate, slice_get, slice_index_or, Bool, true, ◌&&◌, Option, None, Some, All, if◌then◌else◌}
use Rattle.std.specs.List.Sorted.{IsStrictlyIncreasing}
use Rattle.fc_spec.specs.documents.Sets.{zip_with}
use Rattle.fc_spec.specs.documents.Val.{Text}
use Rattle.fc_docset.specs.Positions.{contains, positions}
use Rattle.fc_column.specs.Terms.{has_text, ordinals_in, terms_of}
use Rattle.fc_segment.specs.declared.column.Column as column

-- the parents that have a text
abbrev pub parents_having : Text → List Bool → List (List Text) → List Bool
parents_having t parents texts = zip_with ◌&&◌ parents (map (has_text t) texts)

-- for each term the positions of the parents that have it; nothing is kept where each document is a parent
abbrev pub ParentsByTerm : List Bool → List (List Text) → Option (List (List ℕ)) → Type 0
ParentsByTerm parents texts None = parents ≡ replicate (length parents) true
ParentsByTerm parents texts (Some lists) = lists ≡ map (λ term. positions (parents_having term parents texts)) (terms_of texts)

-- those of the first column, if it holds texts
abbrev pub ParentsById : List Bool → List column.Column → Option (List (List ℕ)) → Type 0
ParentsById parents columns ids = (texts : List (List Text)) → slice_get columns 0 ≡ Some (column.TheVariants.Text texts) → ParentsByTerm parents texts ids

-- the ordinals of the texts of a parent, and none of a child
abbrev pub parent_ordinals : List (List Text) → List Bool → ℕ → List ℕ
parent_ordinals texts parents at = if contains parents at then ordinals_in texts (slice_index_or texts at []) else []

-- ordinals of terms, in ascending order
pub record AreOrdinals (texts : List (List Text)) (ordinals : List ℕ) : Type 0 where
  pub within : All (λ ord. ord < length (terms_of texts)) ordinals
  pub ascending : IsStrictlyIncreasing ordinals
