-- The counts of the fields in the first places, with one more value.
use Rattle.std.proofs.Common.{◌≡◌, ℕ, zero, suc, ◌+◌, ◌<◌, List, [], ◌∷◌, length, get_or, set, take, eqb, true, false, arith, refl, ap}
use Rattle.fc_base.specs.declared.field.FieldId.{FieldId}
use Rattle.fc_docs.specs.Runs.{one_more}
use Rattle.fc_docs.proofs.OneMore.{Count}

-- the last field has one more
pub more_in_last : (cs : List Count) (place : ℕ) (d : Count) (field : FieldId) → place < length cs → eqb (get_or cs place d).0.0 field.0 ≡ true
    → take (suc place) (set cs place ((get_or cs place d).0, (get_or cs place d).1 + 1)) ≡ one_more (take (suc place) cs) field
more_in_last [] place d field within is = absurd (omega arith)
more_in_last (c ∷ cs) zero d field within is = rw is refl
more_in_last (c ∷ []) (suc place) d field within is = absurd (omega arith)
more_in_last (c ∷ e ∷ cs) (suc place) d field within is = ap (λ fs. c ∷ fs) (more_in_last (e ∷ cs) place d field (omega arith) is)

-- a field comes behind the last one
pub more_behind_last : (cs : List Count) (place : ℕ) (d : Count) (field : FieldId) → suc place < length cs → eqb (get_or cs place d).0.0 field.0 ≡ false
    → take (suc (suc place)) (set cs (suc place) (field, 1)) ≡ one_more (take (suc place) cs) field
more_behind_last [] place d field within apart = absurd (omega arith)
more_behind_last (c ∷ []) place d field within apart = absurd (omega arith)
more_behind_last (c ∷ e ∷ cs) zero d field within apart = rw apart refl
more_behind_last (c ∷ e ∷ cs) (suc place) d field within apart = ap (λ fs. c ∷ fs) (more_behind_last (e ∷ cs) place d field (omega arith) apart)

pub first_count : (cs : List Count) (field : FieldId) → 0 < length cs → take 1 (set cs 0 (field, 1)) ≡ (field, 1) ∷ []
first_count [] field some = absurd (omega arith)
first_count (c ∷ cs) field some = refl
