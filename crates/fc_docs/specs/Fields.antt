-- A document as the values of those fields that have some.
use Rattle.std.specs.Prelude.{◌≡◌, ◌+◌, ◌<◌, ◌≤◌, ◌==◌, ⊤, ℕ, List, [], ◌∷◌, length, map, if◌then◌else◌}
use Rattle.std.specs.List.{All, range_with_len}
use Rattle.fc_spec.specs.documents.Val.{Val}
use Rattle.fc_spec.specs.documents.Document.{Document}

-- the numbers of fields, each with the values in the field
abbrev pub FieldValues : Type 0
FieldValues = List (ℕ × List Val)

-- the values of the field of this number
abbrev pub values_at : FieldValues → ℕ → List Val
values_at [] n = []
values_at (e ∷ es) n = if n == e.0 then e.1 else values_at es n

-- each of the fields has a value
abbrev pub HaveValues : FieldValues → Type 0
HaveValues es = All (λ e. 0 < length e.1) es

-- the fields ascend from this number on, so none stands twice
abbrev pub Ascend : ℕ → FieldValues → Type 0
Ascend least [] = ⊤
Ascend least (e ∷ es) = (least ≤ e.0) × Ascend (e.0 + 1) es

-- no field from this number on has values
abbrev pub EndBelow : ℕ → FieldValues → Type 0
EndBelow count es = (n : ℕ) → count ≤ n → values_at es n ≡ []

-- what a document of so many fields keeps
pub record AreValuesOf (count : ℕ) (es : FieldValues) : Type 0 where
  pub ascending : Ascend 0 es
  pub ends : EndBelow count es

-- the document of so many fields
abbrev pub document_of : ℕ → FieldValues → Document
document_of count es = map (values_at es) (range_with_len 0 count)
