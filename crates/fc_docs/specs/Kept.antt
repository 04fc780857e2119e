-- How a document keeps the values of its fields.
use Rattle.std.specs.Prelude.{◌≡◌, ℕ, List, [], ◌∷◌, length, map, take, drop, sum_by}
use Rattle.fc_base.specs.declared.field.FieldId.{FieldId}
use Rattle.fc_base.specs.declared.value.Val.{Val}
use Rattle.fc_base.specs.View.{val_view}
use Rattle.fc_docs.specs.Fields.{FieldValues, AreValuesOf, HaveValues}

-- the values stand one field behind the other, and each field has so many of them
abbrev pub parts : List (FieldId × ℕ) → List Val → FieldValues
parts [] vs = []
parts (c ∷ cs) vs = (c.0.0, map val_view (take c.1 vs)) ∷ parts cs (drop c.1 vs)

-- how many values the fields have
abbrev pub value_count : List (FieldId × ℕ) → ℕ
value_count cs = sum_by (λ c. c.1) cs

-- what a document of so many fields keeps
pub record ArePartsOf (count : ℕ) (cs : List (FieldId × ℕ)) (vs : List Val) : Type 0 where
  pub are_values : AreValuesOf count (parts cs vs)
  pub some : HaveValues (parts cs vs)
  pub whole : value_count cs ≡ length vs
