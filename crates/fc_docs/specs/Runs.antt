-- Values that come in the order of their fields: how many stand in each, and the values alone.
use Rattle.std.specs.Prelude.{◌≡◌, ◌+◌, ◌≤◌, ◌==◌, ⊤, ℕ, List, [], ◌∷◌, length, if◌then◌else◌}
use Rattle.fc_base.specs.declared.field.FieldId.{FieldId}
use Rattle.fc_base.specs.declared.value.Val.{Val}
use Rattle.fc_docs.specs.Direct.{Given, given_to}
use Rattle.fc_docs.specs.Fields.{Ascend, HaveValues, values_at}
use Rattle.fc_docs.specs.Kept.{parts, value_count}

-- no field comes before this one, nor after a later one
abbrev pub Rise : ℕ → Given → Type 0
Rise least [] = ⊤
Rise least (p ∷ ps) = (least ≤ p.0) × Rise p.0 ps

-- with one more value of the field, which is the last that has any, or comes behind those that have
abbrev pub one_more : List (FieldId × ℕ) → FieldId → List (FieldId × ℕ)
one_more [] field = (field, 1) ∷ []
one_more (c ∷ []) field = if c.0.0 == field.0 then (c.0, c.1 + 1) ∷ [] else c ∷ (field, 1) ∷ []
one_more (c ∷ d ∷ cs) field = c ∷ one_more (d ∷ cs) field

-- each field has the values that were given to it
pub record AreGiven (ps : Given) (cs : List (FieldId × ℕ)) (vs : List Val) : Type 0 where
  pub ascending : Ascend 0 (parts cs vs)
  pub some : HaveValues (parts cs vs)
  pub whole : value_count cs ≡ length vs
  pub values : (n : ℕ) → values_at (parts cs vs) n ≡ given_to n ps
