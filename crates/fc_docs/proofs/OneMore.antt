-- The counts of the fields with one more value.
use Rattle.std.proofs.Common.{◌≡◌, ℕ, zero, suc, ◌+◌, List, [], ◌∷◌, ◌++◌, length, get_or, set, eqb, Bool, cond, true, false, arith, refl, ap}
use Rattle.fc_base.specs.declared.field.FieldId.{FieldId}
use Rattle.fc_docs.specs.Kept.{value_count}
use Rattle.fc_docs.specs.Runs.{one_more}
use Rattle.fc_docs.proofs.Parts.{count_first}

abbrev pub Count : Type 0
Count = FieldId × ℕ

-- the last field has one more
pub in_last : (cs : List Count) (place : ℕ) (c : Count) (field : FieldId) → place + 1 ≡ length cs → ((d : Count) → get_or cs place d ≡ c) → eqb c.0.0 field.0 ≡ true
    → set cs place (c.0, c.1 + 1) ≡ one_more cs field
in_last [] place c field last at is = absurd (omega arith)
in_last (d ∷ []) zero c field last at is =
    let same : d ≡ c = at d in
    rw (same, is) refl
in_last (d ∷ []) (suc place) c field last at is = absurd (omega arith)
in_last (d ∷ e ∷ cs) zero c field last at is = absurd (omega arith)
in_last (d ∷ e ∷ cs) (suc place) c field last at is = ap (λ fs. d ∷ fs) (in_last (e ∷ cs) place c field (omega arith) at is)

-- a field comes behind the last one, which stays
pub behind_last : (cs : List Count) (place : ℕ) (c : Count) (field : FieldId) → place + 1 ≡ length cs → ((d : Count) → get_or cs place d ≡ c) → eqb c.0.0 field.0 ≡ false
    → set cs place c ++ (field, 1) ∷ [] ≡ one_more cs field
behind_last [] place c field last at apart = absurd (omega arith)
behind_last (d ∷ []) zero c field last at apart =
    let same : d ≡ c = at d in
    rw (same, apart) refl
behind_last (d ∷ []) (suc place) c field last at apart = absurd (omega arith)
behind_last (d ∷ e ∷ cs) zero c field last at apart = absurd (omega arith)
behind_last (d ∷ e ∷ cs) (suc place) c field last at apart = ap (λ fs. d ∷ fs) (behind_last (e ∷ cs) place c field (omega arith) at apart)

pub first_of_all : (cs : List Count) (field : FieldId) → length cs ≡ 0 → cs ++ (field, 1) ∷ [] ≡ one_more cs field
first_of_all [] field none = refl
first_of_all (c ∷ cs) field none = absurd (omega arith)

-- there is one more in all
pub count-one_more : (cs : List Count) (field : FieldId) → value_count (one_more cs field) ≡ value_count cs + 1
count-one_more [] field = refl
count-one_more (c ∷ []) field = go (eqb c.0.0 field.0)
  where
    go : (b : Bool) → value_count (cond b ((c.0, c.1 + 1) ∷ []) (c ∷ (field, 1) ∷ [])) ≡ value_count (c ∷ []) + 1
    go true = omega (arith, count_first (c.0, c.1 + 1) [], count_first c [])
    go false = omega (arith, count_first c ((field, 1) ∷ []), count_first c [], count_first (field, 1) [])
count-one_more (c ∷ d ∷ cs) field = omega (arith, count_first c (d ∷ cs), count_first c (one_more (d ∷ cs) field), count-one_more (d ∷ cs) field)
