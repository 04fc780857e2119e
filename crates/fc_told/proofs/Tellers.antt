-- One more teller of a bucket.
use Rattle.std.proofs.Common.{◌≡◌, ◌≢◌, ℕ, List, [], ◌∷◌, Bool, true, false, cond, ◌==◌, Option, None, Some, refl, sym, ◌∙◌, ap, inl, inr}
use Rattle.std.specs.Prelude.{AllPairs}
use Rattle.std.specs.Ordering.{match_ordering, nat_cmp, is_eq}
use Rattle.std.specs.declared.cmp.Ordering.{Ordering}
use Rattle.std.specs.declared.cmp.Ordering.TheVariants.{Less, Equal, Greater}
use Rattle.std.proofs.lemmas.Bool.{false≢true, eqb-true, eq-eqb}
use Rattle.std.proofs.lemmas.Cmp.{nat_cmp_total, tied_itself}
use Rattle.std.proofs.lemmas.Map.Lookups.{exact_unsigned}
use Rattle.fc_spec.proofs.words.Members.{Member}
use Rattle.fc_spec.proofs.words.Differing.{Differ, differ_pairs, pairs_differ}
use Rattle.fc_spec.proofs.messages.Ways.{none_not_some}
use Rattle.fc_told.specs.Trees.{Teller, teller_of}
use Rattle.fc_told.specs.Adding.{with_teller}

pub differs : (m n : ℕ) → (m ≡ n → ⊥) → (m == n) ≡ false
differs m n h = go (m == n) refl
  where
    go : (b : Bool) → (m == n) ≡ b → b ≡ false
    go true e = absurd (h (eqb-true m n e))
    go false e = refl

-- what it told is found
pub teller_itself : (t : Teller) (us : List Teller) → teller_of t.shard (with_teller t us) ≡ Some t
teller_itself t [] = ap (λ b. cond b (Some t) None) (eq-eqb t.shard t.shard refl)
teller_itself t (u ∷ us) = go (nat_cmp t.shard u.shard) refl (teller_itself t us)
  where
    own : (o : Option Teller) → cond (t.shard == t.shard) (Some t) o ≡ Some t
    own o = ap (λ b. cond b (Some t) o) (eq-eqb t.shard t.shard refl)

    go : (o : Ordering) → nat_cmp t.shard u.shard ≡ o → teller_of t.shard (with_teller t us) ≡ Some t → teller_of t.shard (match_ordering o (t ∷ u ∷ us) (t ∷ us) (u ∷ with_teller t us)) ≡ Some t
    go Less e ih = own (teller_of t.shard (u ∷ us))
    go Equal e ih = own (teller_of t.shard us)
    go Greater e ih = ap (λ b. cond b (Some u) (teller_of t.shard (with_teller t us))) (differs u.shard t.shard apart) ∙ ih
      where
        apart : u.shard ≡ t.shard → ⊥
        apart same = false≢true (ap is_eq (sym e ∙ ap (nat_cmp t.shard) same) ∙ ap is_eq (tied_itself nat_cmp_total t.shard))

-- and so is what the others told
pub teller_other : (j : ℕ) (t : Teller) (us : List Teller) → (t.shard ≡ j → ⊥) → teller_of j (with_teller t us) ≡ teller_of j us
teller_other j t [] other = ap (λ b. cond b (Some t) None) (differs t.shard j other)
teller_other j t (u ∷ us) other = go (nat_cmp t.shard u.shard) refl (teller_other j t us other)
  where
    skipped : (o : Option Teller) → cond (t.shard == j) (Some t) o ≡ o
    skipped o = ap (λ b. cond b (Some t) o) (differs t.shard j other)

    go : (o : Ordering) → nat_cmp t.shard u.shard ≡ o → teller_of j (with_teller t us) ≡ teller_of j us → teller_of j (match_ordering o (t ∷ u ∷ us) (t ∷ us) (u ∷ with_teller t us)) ≡ teller_of j (u ∷ us)
    go Less e ih = skipped (teller_of j (u ∷ us))
    go Equal e ih = skipped (teller_of j us) ∙ sym (ap (λ b. cond b (Some u) (teller_of j us)) (differs u.shard j (λ h. other (exact_unsigned t.shard u.shard e ∙ h))))
    go Greater e ih = ap (cond (u.shard == j) (Some u)) ih

-- ---- each shard once

abbrev pub Apart : Teller → Teller → Type 0
Apart t u = t.shard ≢ u.shard

-- where none of the shard is found there is none
pub no_teller : (i : ℕ) (us : List Teller) → teller_of i us ≡ None → (u : Teller) → Member u us → u.shard ≡ i → ⊥
no_teller i [] none u m same = m
no_teller i (x ∷ us) none u m same = go (x.shard == i) refl none m (λ h n. no_teller i us h u n same)
  where
    go : (b : Bool) → (x.shard == i) ≡ b → cond b (Some x) (teller_of i us) ≡ None → Member u (x ∷ us) → (teller_of i us ≡ None → Member u us → ⊥) → ⊥
    go true e h n ih = none_not_some x (sym h)
    go false e h (inl is) ih = false≢true (sym e ∙ eq-eqb x.shard i (ap (λ (y : Teller). y.shard) (sym is) ∙ same))
    go false e h (inr n) ih = ih h n

-- the members with one more
member_with : (t : Teller) (us : List Teller) (u : Teller) → Member u (with_teller t us) → Member u (t ∷ us)
member_with t [] u m = m
member_with t (x ∷ us) u m = go (nat_cmp t.shard x.shard) m (member_with t us u)
  where
    go : (o : Ordering) → Member u (match_ordering o (t ∷ x ∷ us) (t ∷ us) (x ∷ with_teller t us)) → (Member u (with_teller t us) → Member u (t ∷ us)) → Member u (t ∷ x ∷ us)
    go Less n ih = n
    go Equal (inl e) ih = inl e
    go Equal (inr n) ih = inr (inr n)
    go Greater (inl e) ih = inr (inl e)
    go Greater (inr n) ih = elim (ih n) [ inl e ↦ inl e | inr k ↦ inr (inr k) ]

differ_with : (t : Teller) (us : List Teller) → ((u : Teller) → Member u us → u.shard ≡ t.shard → ⊥) → Differ Apart us → Differ Apart (with_teller t us)
differ_with t [] new d = ((λ y m. absurd m), tt)
differ_with t (x ∷ us) new d = go (nat_cmp t.shard x.shard) (differ_with t us (λ u m. new u (inr m)) d.1)
  where
    go : (o : Ordering) → Differ Apart (with_teller t us) → Differ Apart (match_ordering o (t ∷ x ∷ us) (t ∷ us) (x ∷ with_teller t us))
    go Less ih = ((λ y m e. new y m (sym e)), d)
    go Equal ih = ((λ y m e. new y (inr m) (sym e)), d.1)
    go Greater ih = ((λ y m. elim (member_with t us y m) [ inl e ↦ (λ h. new x (inl refl) (h ∙ ap (λ (z : Teller). z.shard) e)) | inr k ↦ d.0 y k ]), ih)

pub apart_with : (t : Teller) (us : List Teller) → teller_of t.shard us ≡ None → AllPairs Apart us → AllPairs Apart (with_teller t us)
apart_with t us none apart = differ_pairs Apart (with_teller t us) (differ_with t us (no_teller t.shard us none) (pairs_differ Apart us apart))
