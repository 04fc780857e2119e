-- Fields that ascend, and the values found among them.
use Rattle.std.proofs.Common.{◌≡◌, ◌≢◌, ℕ, ◌+◌, ◌<◌, eqb, [], ◌∷◌, List, true, false, arith, ◌∙◌, refl}
use Rattle.std.proofs.lemmas.Bool.Decides.{nat_tests}
use Rattle.fc_spec.specs.documents.Val.{Val}
use Rattle.fc_docs.specs.Fields.{FieldValues, Ascend, values_at}

abbrev pub Entry : Type 0
Entry = ℕ × List Val

pub same : (n : ℕ) → eqb n n ≡ true
same n = grind (arith, nat_tests)

pub other : (m n : ℕ) → m ≢ n → eqb m n ≡ false
other m n apart = grind (arith, nat_tests)

pub here : (e : Entry) (es : FieldValues) → values_at (e ∷ es) e.0 ≡ e.1
here e es = rw (same e.0) refl

pub skip : (e : Entry) (es : FieldValues) (n : ℕ) → n ≢ e.0 → values_at (e ∷ es) n ≡ values_at es n
skip e es n apart = rw (other n e.0 apart) refl

pub below : (a n : ℕ) (es : FieldValues) → Ascend a es → n < a → values_at es n ≡ []
below a n [] up small = refl
below a n (e ∷ es) up small = skip e es n (omega arith) ∙ below (e.0 + 1) n es up.1 (omega arith)
