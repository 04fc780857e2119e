-- The order of texts as tests.
use Rattle.std.proofs.Common.{◌≡◌, true, false, not, ◌&&◌, refl, sym, ap, ◌∙◌}
use Rattle.std.proofs.lemmas.Cmp.{nat_list_cmp_total, tied_itself}
use Rattle.std.proofs.lemmas.Map.Lookups.{exact_bytes}
use Rattle.std.specs.Ordering.{is_lt, is_le, is_eq, ordering_reverse}
use Rattle.std.specs.declared.cmp.Ordering.{Ordering}
use Rattle.std.specs.declared.cmp.Ordering.TheVariants.{Less, Equal, Greater}
use Rattle.fc_spec.specs.documents.Val.{Text, text_cmp, same_text}
use Rattle.fc_spec.proofs.words.Orderings.{Less-from_is_lt}

not_lt : (o : Ordering) → is_le (ordering_reverse o) ≡ not (is_lt o)
not_lt Less = refl
not_lt Equal = refl
not_lt Greater = refl

not_le : (o : Ordering) → is_lt (ordering_reverse o) ≡ not (is_le o)
not_le Less = refl
not_le Equal = refl
not_le Greater = refl

both_le : (o : Ordering) → (is_le o && is_le (ordering_reverse o)) ≡ is_eq o
both_le Less = refl
both_le Equal = refl
both_le Greater = refl

pub le-not_lt : (t u : Text) → is_le (text_cmp t u) ≡ not (is_lt (text_cmp u t))
le-not_lt t u = ap is_le (nat_list_cmp_total.antisymm t u) ∙ not_lt (text_cmp u t)

pub lt-not_le : (t u : Text) → is_lt (text_cmp t u) ≡ not (is_le (text_cmp u t))
lt-not_le t u = ap is_lt (nat_list_cmp_total.antisymm t u) ∙ not_le (text_cmp u t)

pub le_both_ways : (t u : Text) → (is_le (text_cmp t u) && is_le (text_cmp u t)) ≡ same_text t u
le_both_ways t u = ap (λ o. is_le (text_cmp t u) && is_le o) (nat_list_cmp_total.antisymm u t) ∙ both_le (text_cmp t u)

pub le_from_lt : (t u : Text) → is_lt (text_cmp t u) ≡ true → is_le (text_cmp t u) ≡ true
le_from_lt t u h = ap is_le (Less-from_is_lt (text_cmp t u) h)

pub lt_le : (s t u : Text) → is_lt (text_cmp s t) ≡ true → is_le (text_cmp t u) ≡ true → is_lt (text_cmp s u) ≡ true
lt_le s t u h k = go (text_cmp t u) refl k
  where
    go : (o : Ordering) → text_cmp t u ≡ o → is_le o ≡ true → is_lt (text_cmp s u) ≡ true
    go Less e k = ap is_lt (nat_list_cmp_total.trans s t u (Less-from_is_lt (text_cmp s t) h) e)
    go Equal e k = ap (λ w. is_lt (text_cmp s w)) (sym (exact_bytes t u e)) ∙ h
    go Greater e k = cc

pub le_lt : (s t u : Text) → is_le (text_cmp s t) ≡ true → is_lt (text_cmp t u) ≡ true → is_lt (text_cmp s u) ≡ true
le_lt s t u h k = go (text_cmp s t) refl h
  where
    go : (o : Ordering) → text_cmp s t ≡ o → is_le o ≡ true → is_lt (text_cmp s u) ≡ true
    go Less e h = ap is_lt (nat_list_cmp_total.trans s t u e (Less-from_is_lt (text_cmp t u) k))
    go Equal e h = ap (λ w. is_lt (text_cmp w u)) (exact_bytes s t e) ∙ k
    go Greater e h = cc

pub lt_itself : (t : Text) → is_lt (text_cmp t t) ≡ false
lt_itself t = ap is_lt (tied_itself nat_list_cmp_total t)

pub le_itself : (t : Text) → is_le (text_cmp t t) ≡ true
le_itself t = ap is_le (tied_itself nat_list_cmp_total t)
