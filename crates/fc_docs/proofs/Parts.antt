-- The values of a document, cut into those of its fields.
use Rattle.std.proofs.Common.{◌≡◌, ℕ, ◌+◌, List, [], ◌∷◌, ◌++◌, length, map, take, drop, arith, ◌∙◌, ap, ap₂}
use Rattle.std.proofs.lemmas.List.{nil_from_length, take_all, length-map, length-drop, length-take-le, take-append-le, drop-append-le}
use Rattle.std.proofs.lemmas.List.Sums.{sum_by-cons}
use Rattle.fc_base.specs.declared.field.FieldId.{FieldId}
use Rattle.fc_base.specs.declared.value.Val.{Val}
use Rattle.fc_base.specs.View.{val_view}
use Rattle.fc_docs.specs.Kept.{parts, value_count}
use Rattle.fc_docs.proofs.Entries.{Entry}
use Rattle.fc_docs.proofs.ValueCounts.{kept}

pub count_first : (c : FieldId × ℕ) (cs : List (FieldId × ℕ)) → value_count (c ∷ cs) ≡ c.1 + value_count cs
count_first c cs = sum_by-cons (λ (d : FieldId × ℕ). d.1) c cs

-- one more field, behind those that are kept
pub parts-push : (cs : List (FieldId × ℕ)) (vs : List Val) (c : FieldId × ℕ) (ws : List Val) → value_count cs ≡ length vs → c.1 ≡ length ws
    → parts (cs ++ c ∷ []) (vs ++ ws) ≡ parts cs vs ++ (c.0.0, map val_view ws) ∷ []
parts-push [] vs c ws whole count =
    ap (λ us. parts (c ∷ []) (us ++ ws)) (nil_from_length vs (omega arith))
    ∙ ap (λ us. (c.0.0, map val_view us) ∷ []) (take_all c.1 ws (omega arith))
parts-push (d ∷ cs) vs c ws whole count =
    let first = count_first d cs in
    ap₂ (λ us left. (d.0.0, map val_view us) ∷ parts (cs ++ c ∷ []) left) (take-append-le d.1 vs ws (omega arith)) (drop-append-le d.1 vs ws (omega arith))
    ∙ ap (λ es. (d.0.0, map val_view (take d.1 vs)) ∷ es) (parts-push cs (drop d.1 vs) c ws (omega (arith, length-drop d.1 vs)) count)

-- the fields have all values
pub parts_kept : (cs : List (FieldId × ℕ)) (vs : List Val) → value_count cs ≡ length vs → kept (parts cs vs) ≡ length vs
parts_kept [] vs whole = whole
parts_kept (c ∷ cs) vs whole =
    let first = count_first c cs in
    let here : length (map val_view (take c.1 vs)) ≡ c.1 = length-map (take c.1 vs) val_view ∙ length-take-le c.1 vs (omega arith) in
    let behind = parts_kept cs (drop c.1 vs) (omega (arith, length-drop c.1 vs)) in
    sum_by-cons (λ (e : Entry). length e.1) (c.0.0, map val_view (take c.1 vs)) (parts cs (drop c.1 vs)) ∙ omega (arith, length-drop c.1 vs)
