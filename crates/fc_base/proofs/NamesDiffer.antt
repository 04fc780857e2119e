-- No two fields of a schema have one name.
use Rattle.std.proofs.Common.{◌≡◌, ℕ, suc, zero, ◌<◌, List, [], ◌∷◌, get_or, true, Some, map, position, slice_get, arith, sym, ◌∙◌, ap, inl, inr}
use Rattle.std.specs.Prelude.{codes}
use Rattle.std.specs.declared.cmp.Ordering.TheVariants.{Less, Equal}
use Rattle.std.specs.Cmp.Lexicographic.{nat_list_cmp_total}
use Rattle.std.specs.List.Sorted.{IsStrictlySortedBy}
use Rattle.std.proofs.lemmas.Bool.{cases_lt}
use Rattle.std.proofs.lemmas.Cmp.{tied_itself}
use Rattle.std.proofs.lemmas.List.{get_or-map, length-map}
use Rattle.std.proofs.lemmas.List.Quantifiers.{position-Some}
use Rattle.std.proofs.lemmas.Map.Keys.{Less-from_sorted, any_passes_from_place}
use Rattle.std.proofs.lemmas.Option.{get_or_from_slice_get, slice_get_within, slice_get-get_or}
use Rattle.fc_spec.specs.documents.Val.{Text, text_cmp, same_text}
use Rattle.fc_spec.specs.documents.Schema.{Field}
use Rattle.fc_spec.proofs.words.Texts.{same_itself, equal}
use Rattle.fc_base.specs.ValidSchema.{id_field, IsFieldList}

-- of fields that ascend by their names no two have one
two_ascend : (fields : List Field) (i j : ℕ) (f g : Field) → IsStrictlySortedBy text_cmp (map (λ h. h.name) fields) → slice_get fields i ≡ Some f → slice_get fields j ≡ Some g → i < j → text_cmp f.name g.name ≡ Less
two_ascend fields i j f g ascend first second before =
    let within = slice_get_within fields j g second in
    let f_name = get_or-map (λ (h : Field). h.name) fields i f f.name (omega arith) ∙ ap (λ h. h.name) (get_or_from_slice_get fields i f f first) in
    let g_name = get_or-map (λ (h : Field). h.name) fields j f f.name within ∙ ap (λ h. h.name) (get_or_from_slice_get fields j g f second) in
    rw (← f_name, ← g_name) (Less-from_sorted text_cmp (map (λ h. h.name) fields) i j f.name ascend before (rw (length-map fields (λ h. h.name)) within))

later_differs : (fields : List Field) (i j : ℕ) (f g : Field) → IsFieldList fields → slice_get fields i ≡ Some f → slice_get fields j ≡ Some g → i < j → f.name ≡ g.name → ⊥
later_differs [] i j f g list first second before same = cc
later_differs (h ∷ fields) i zero f g list first second before same = absurd (omega arith)
later_differs (h ∷ fields) zero (suc j) f g list first second before same =
    let is_id : f ≡ id_field = cc (list.id_first) in
    let found = any_passes_from_place (λ (k : Field). same_text k.name (codes "id")) fields j g second (rw (← same, is_id) (same_itself (codes "id"))) in
    cc (list.id_once)
later_differs (h ∷ fields) (suc i) (suc j) f g list first second before same =
    let below = two_ascend fields i j f g list.ascend first second (omega arith) in
    let tied : text_cmp f.name g.name ≡ Equal = rw same (tied_itself nat_list_cmp_total g.name) in
    cc (below, tied)

-- the field that is found is the only one of its name
pub only_one : (fields : List Field) (name : Text) (i j : ℕ) (f : Field) → IsFieldList fields → position (λ g. same_text name g.name) fields ≡ Some i → slice_get fields j ≡ Some f → f.name ≡ name → j ≡ i
only_one fields name i j f list found at is =
    let g = get_or fields i f in
    let here = position-Some (λ (h : Field). same_text name h.name) fields i f found in
    let there : slice_get fields i ≡ Some g = slice_get-get_or fields i f here.0 in
    let same : g.name ≡ f.name = sym (equal name g.name here.1) ∙ sym is in
    elim (cases_lt j i) [
      | inl before ↦ let passes : same_text name (get_or fields j f).name ≡ true = rw (get_or_from_slice_get fields j f f at, is) (same_itself name) in absurd (cc (passes, here.2 j before))
      | inr not_before ↦ elim (cases_lt i j) [ inl behind ↦ absurd (later_differs fields i j g f list there at behind same) | inr not_behind ↦ omega arith ]
    ]
