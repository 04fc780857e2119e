-- Lists of what is told, by facets, as they change.
use Rattle.std.proofs.Common.{◌≡◌, ℕ, zero, suc, ◌≤◌, List, [], ◌∷◌, ◌++◌, length, get_or, Bor, Vec, refl, ◌∙◌, ap, arith}
use Rattle.std.specs.Prelude.{slice_set}
use Rattle.std.specs.declared.alloc.Global.{Global}
use Rattle.std.proofs.lemmas.List.{map-append}
use Rattle.fc_spec.specs.messages.TopRounds as definition
use Rattle.fc_exact.specs.ToldFacets.{with_told}
use Rattle.fc_exact.specs.ToldView.{lent_view, lists_view}
use Rattle.fc_exact.specs.View.{told_view}
use Rattle.fc_exact.specs.declared.told.ToldCount.{ToldCount}

pub lists_set : (lists : List (Vec (Bor ToldCount) Global)) (i : ℕ) (old new : Vec (Bor ToldCount) Global) (a : Bor ToldCount) → old ≡ get_or lists i old → new.items ≡ old.items ++ a ∷ []
    → lists_view (slice_set lists i new) ≡ with_told i (told_view a.now) (lists_view lists)
lists_set [] i old new a is more = refl
lists_set (l ∷ ls) zero old new a is more =
    ap (λ ts. ts ∷ lists_view ls) (ap lent_view more ∙ map-append (λ (t : Bor ToldCount). told_view t.now) old.items (a ∷ []) ∙ ap (λ (v : Vec (Bor ToldCount) Global). lent_view v.items ++ told_view a.now ∷ []) is)
lists_set (l ∷ ls) (suc i) old new a is more = ap (λ rest. lent_view l.items ∷ rest) (lists_set ls i old new a is more)

pub with_told_past : (n : ℕ) (a : definition.ToldCount) (lists : List (List definition.ToldCount)) → length lists ≤ n → lists ≡ with_told n a lists
with_told_past n a [] past = refl
with_told_past zero a (l ∷ ls) past = absurd (omega arith)
with_told_past (suc n) a (l ∷ ls) past = ap (λ rest. l ∷ rest) (with_told_past n a ls (omega arith))
