-- What operations name.
use Rattle.std.specs.Prelude.{ℕ, List, [], ◌∷◌, ◌++◌, Bool, true, take, drop, replicate, length, map}
use Rattle.std.specs.Borrow.{Bor}
use Rattle.std.specs.List.{list_any}
use Rattle.fc_spec.specs.documents.Val.{Text, Val, text}
use Rattle.fc_spec.specs.documents.Document.{Block, values_of, Op, adding, deleting}
use Rattle.fc_spec.specs.documents.Operations.{has_id}
use Rattle.fc_spec.specs.documents.Totals.{documents_of}
use Rattle.fc_docs.specs.declared.block.Op as docs
use Rattle.fc_docs.specs.View.{op_view}

-- a block has one of these ids
abbrev pub has_one_of : List Text → Block → Bool
has_one_of ids b = list_any (λ x. has_id x b) ids

-- the texts of names that are lent
abbrev pub texts_of : List (Bor Text) → List Text
texts_of names = map (λ name. name.now) names

-- the operations that are lent
abbrev pub ops_of : List (Bor docs.Op) → List Op
ops_of ops = map (λ op. op_view op.now) ops

-- the values are one text
abbrev pub IsText : List Val → Type 0
IsText [] = ⊥
IsText (text t ∷ []) = Unit {0}
IsText (v ∷ vs) = ⊥

-- the id that an operation names is a text
abbrev pub NamesId : Op → Type 0
NamesId (adding b) = IsText (values_of b.parent 0)
NamesId (deleting x) = Unit {0}

-- how many documents an operation adds
abbrev pub op_size : Op → ℕ
op_size (adding b) = length (documents_of b)
op_size (deleting x) = 0

-- a set with the positions from one up to another of a block that is added and left
abbrev pub left_with : List Bool → ℕ → ℕ → Op → Bool → List Bool
left_with set start end (adding b) true = take start set ++ (replicate (length (documents_of b)) true ++ drop end set)
left_with set start end _ _ = set
