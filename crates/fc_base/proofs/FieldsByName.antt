-- Finding a field by its name among the fields of a schema.
use Rattle.std.proofs.Common.{◌≡◌, ℕ, suc, ◌+◌, ◌-◌, List, [], ◌∷◌, length, take, drop, get_or, Bool, true, false, cond, nat_eq, Option, Some, option_map, map, position, slice_get, arith, sym, ◌∙◌, ap, refl, add-one}
use Rattle.std.specs.List.{position_from}
use Rattle.std.specs.List.Sorted.{IsStrictlySortedBy}
use Rattle.std.specs.Cmp.Lexicographic.{pointwise}
use Rattle.std.proofs.lemmas.Iterator.Adapters.{position_from-zero}
use Rattle.std.proofs.lemmas.List.{take_all}
use Rattle.std.proofs.lemmas.Map.Text.{is_eq-slice_cmp}
use Rattle.fc_spec.specs.documents.Val.{Text, text_cmp, same_text}
use Rattle.fc_spec.specs.documents.Schema as definition
use Rattle.fc_base.specs.declared.field.Field.{Field}
use Rattle.fc_base.specs.ValidSchema.{id_field}
use Rattle.fc_base.specs.View.{field_view}

-- the fields behind the first, as a slice gives them
abbrev pub others : List Field → List Field
others fields = take (length fields - 1) (drop 1 fields)

names_of_views : (fields : List Field) → map (λ f. f.name) (map field_view fields) ≡ map (λ f. f.name) fields
names_of_views [] = refl
names_of_views (f ∷ fields) = ap (λ names. f.name ∷ names) (names_of_views fields)

others_of : (f : Field) (fields : List Field) → others (f ∷ fields) ≡ fields
others_of f fields = take_all _ fields (omega arith)

pub others_ascend : (fields : List Field) → IsStrictlySortedBy text_cmp (map (λ f. f.name) (drop 1 (map field_view fields))) → IsStrictlySortedBy text_cmp (map (λ f. f.name) (others fields))
others_ascend [] ascend = ascend
others_ascend (f ∷ fields) ascend = rw (others_of f fields, ← names_of_views fields) ascend

from_next : {X : Type 0} (p : X → Bool) (i : ℕ) (xs : List X) → position_from p (i + 1) xs ≡ option_map suc (position_from p i xs)
from_next p i [] = refl
from_next p i (x ∷ xs) =
    elim (p x) as (λ b. cond b (Some (i + 1)) (position_from p (i + 1 + 1) xs) ≡ option_map suc (cond b (Some i) (position_from p (i + 1) xs)))
    [ true ↦ ap Some (add-one i) | false ↦ from_next p (i + 1) xs ]

from_views : (p : Text → Bool) (i : ℕ) (fields : List Field) → position_from (λ f. p f.name) i (map field_view fields) ≡ position_from (λ f. p f.name) i fields
from_views p i [] = refl
from_views p i (f ∷ fields) = ap (λ rest. cond (p f.name) (Some i) rest) (from_views p (i + 1) fields)

abbrev named : Text → definition.Field → Bool
named name f = same_text name f.name

-- the first field has the name
pub first_found : (name : Text) (fields : List Field) (f : Field) → slice_get (map field_view fields) 0 ≡ Some id_field → f ≡ get_or fields 0 f → pointwise nat_eq name f.name ≡ true → position (named name) (map field_view fields) ≡ Some 0
first_found name [] f first is same = cc
first_found name (g ∷ fields) f first is same =
    position_from-zero (named name) (map field_view (g ∷ fields)) ∙ rw (← is, is_eq-slice_cmp, same) refl

-- the first field has another name, and r is the place among those behind it
pub later_found : (name : Text) (fields slice : List Field) (f : Field) (r : Option ℕ) → slice_get (map field_view fields) 0 ≡ Some id_field → f ≡ get_or fields 0 f → pointwise nat_eq name f.name ≡ false → slice ≡ fields → r ≡ position (λ g. same_text name g.name) (others slice) → position (named name) (map field_view fields) ≡ option_map suc r
later_found name [] slice f r first is same whole place = cc
later_found name (g ∷ fields) slice f r first is same whole place =
    let from_second : position_from (named name) 0 (map field_view (g ∷ fields)) ≡ position_from (named name) 1 (map field_view fields) = rw (← is, is_eq-slice_cmp, same) refl in
    let behind : r ≡ position_from (λ h. same_text name h.name) 0 fields = place ∙ ap (λ all. position (λ h. same_text name h.name) (others all)) whole ∙ ap (position (λ h. same_text name h.name)) (others_of g fields) ∙ position_from-zero (λ h. same_text name h.name) fields in
    position_from-zero (named name) (map field_view (g ∷ fields)) ∙ from_second ∙ from_next (named name) 0 (map field_view fields)
    ∙ ap (option_map suc) (from_views (same_text name) 0 fields ∙ sym behind)
