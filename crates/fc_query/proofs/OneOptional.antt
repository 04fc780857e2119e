-- One optional clause.
use Rattle.std.proofs.Common.{◌≡◌, ◌∙◌, ap, refl, List, [], ◌∷◌, ◌++◌, length, true, false, arith, length-append}
use Rattle.fc_spec.specs.queries.Query.{must, must_not, may}
use Rattle.fc_spec.specs.queries.QueryMeaning.{grouped}
use Rattle.fc_query.specs.QueryView.{Part, linked, is_one_optional_of}

pub not_one : (ps : List Part) → (length ps ≡ 1 → ⊥) → is_one_optional_of (linked ps) ≡ false
not_one [] h = refl
not_one (p ∷ []) h = absurd (h refl)
not_one ((must, q) ∷ r ∷ ps) h = refl
not_one ((must_not, q) ∷ r ∷ ps) h = refl
not_one ((may, q) ∷ r ∷ ps) h = refl

last_of_one : (p r : Part) (before : List Part) → p ∷ [] ≡ before ++ r ∷ [] → p ≡ r
last_of_one p r [] e = cc
last_of_one p r (b ∷ before) e = absurd (let size = ap length e ∙ length-append (b ∷ before) (r ∷ []) in omega arith)

pub grouped_one : (ps before : List Part) (r : Part) → is_one_optional_of (linked ps) ≡ true → ps ≡ before ++ r ∷ [] → grouped (linked ps) ≡ r.1
grouped_one [] before r h e = absurd cc
grouped_one ((must, q) ∷ ps) before r h e = absurd cc
grouped_one ((must_not, q) ∷ ps) before r h e = absurd cc
grouped_one ((may, q) ∷ []) before r h e = ap (λ p. p.1) (last_of_one (may, q) r before e)
grouped_one ((may, q) ∷ s ∷ ps) before r h e = absurd cc
