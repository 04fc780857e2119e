-- One more text gets its place.
use Rattle.std.proofs.Common.{◌≡◌, ℕ, suc, ◌+◌, ◌<◌, ◌≤◌, ◌⊎◌, inl, inr, false, ◌||◌, List, [], ◌∷◌, ◌++◌, length, get_or, set, All, sym, ap, ap₂, subst, ◌∙◌, arith, length-append}
use Rattle.std.proofs.lemmas.Bool.{cases_eq, cases_lt}
use Rattle.std.proofs.lemmas.List.{map_push, get_or-map, length-map, get_or_append_left, get_or-append-add, get_or-set_same, get_or-set_other}
use Rattle.std.specs.Ordering.{is_lt}
use Rattle.fc_spec.specs.documents.Val.{Text, text_cmp, same_text}
use Rattle.fc_column.specs.Dictionary.{term_at}
use Rattle.fc_column.specs.MergedTerms.{ArePlaced, HaveOneText, NeverFall}
use Rattle.fc_column.specs.Numbering.{texts_numbered}
use Rattle.fc_column.specs.Terms.{has_text}
use Rattle.fc_column.proofs.MergedOrder.{has_text-push}

module _ (all done rest : List (Text × ℕ)) (one : Text × ℕ) (left : done ++ one ∷ rest ≡ all) where
  at_next : (d : Text × ℕ) → get_or all (length done + 0) d ≡ one
  at_next d = ap (λ l. get_or l (length done + 0) d) (sym left) ∙ get_or-append-add done (one ∷ rest) 0 d

  at_done : (k : ℕ) (d : Text × ℕ) → k < length done → get_or all k d ≡ get_or done k d
  at_done k d inside = ap (λ l. get_or l k d) (sym left) ∙ get_or_append_left done (one ∷ rest) d k inside

  at_rest : (k : ℕ) (d : Text × ℕ) → get_or all (length done + suc k) d ≡ get_or rest k d
  at_rest k d = ap (λ l. get_or l (length done + suc k) d) (sym left) ∙ get_or-append-add done (one ∷ rest) (suc k) d

  size : length all ≡ length done + suc (length rest)
  size = ap length (sym left) ∙ length-append done (one ∷ rest)

  -- a number that was read has the same text
  pub same_text_of : HaveOneText all → (k : ℕ) (d : Text × ℕ) → k < length done → (get_or done k d).1 ≡ one.1 → (get_or done k d).0 ≡ one.0
  same_text_of own k d inside same =
      let here = at_done k d inside in
      let there = at_next d in
      ap (λ x. x.0) (sym here) ∙ own k d (omega (arith, size)) (length done + 0) d (omega (arith, size)) (ap (λ x. x.1) here ∙ same ∙ ap (λ x. x.1) (sym there)) ∙ ap (λ x. x.0) there

  -- what follows is not below it
  pub not_below_next : NeverFall (texts_numbered all) → All (λ x. is_lt (text_cmp x.0 one.0) ≡ false) rest
  not_below_next order k d inside =
      let text_of = λ (x : Text × ℕ). x.0 in
      let long = length-map all text_of in
      let here = get_or-map text_of all (length done + 0) d d.0 (omega (arith, size)) ∙ ap text_of (at_next d) in
      let there = get_or-map text_of all (length done + suc k) d d.0 (omega (arith, size)) ∙ ap text_of (at_rest k d) in
      ap₂ (λ a b. is_lt (text_cmp a b)) (sym there) (sym here) ∙ order (length done + 0) (length done + suc k) d.0 (omega arith) (omega (arith, size, long))

  pub is_below : (count : ℕ) → All (λ x. x.1 < count) all → one.1 < count
  is_below count below = subst (λ x. x.1 < count) (at_next one) (below (length done + 0) one (omega (arith, size)))

pub more_placed : (old new : List Text) (places now : List ℕ) (done : List (Text × ℕ)) (one : Text × ℕ) (place : ℕ) → ArePlaced old places done
    → ((k : ℕ) (d : Text × ℕ) → k < length done → (get_or done k d).1 ≡ one.1 → (get_or done k d).0 ≡ one.0)
    → one.1 < length places → now ≡ set places one.1 place → place < length new → term_at new place ≡ one.0
    → ((ord : ℕ) → ord < length old → (ord < length new) × (term_at new ord ≡ term_at old ord)) → ArePlaced new now (done ++ one ∷ [])
more_placed old new places now done one place placed same there is within text kept k d inside = go (cases_lt k (length done))
  where
    Good : Text × ℕ → Type 0
    Good x = (get_or now x.1 0 < length new) × (term_at new (get_or now x.1 0) ≡ x.0)

    at_one : get_or now one.1 0 ≡ place
    at_one = ap (λ l. get_or l one.1 0) is ∙ get_or-set_same places one.1 place 0 there

    last : (get_or now one.1 0 < length new) × (term_at new (get_or now one.1 0) ≡ one.0)
    last = (omega (arith, at_one), ap (term_at new) at_one ∙ text)

    before : k < length done → (get_or now (get_or done k d).1 0 < length new) × (term_at new (get_or now (get_or done k d).1 0) ≡ (get_or done k d).0)
    before earlier = by (cases_eq (get_or done k d).1 one.1)
      where
        by : (((get_or done k d).1 ≡ one.1) ⊎ ((get_or done k d).1 ≡ one.1 → ⊥)) → (get_or now (get_or done k d).1 0 < length new) × (term_at new (get_or now (get_or done k d).1 0) ≡ (get_or done k d).0)
        by (inl e) = let at = ap (λ n. get_or now n 0) e ∙ at_one in (omega (arith, at), ap (term_at new) at ∙ text ∙ sym (same k d earlier e))
        by (inr other) =
            let at = ap (λ l. get_or l (get_or done k d).1 0) is ∙ get_or-set_other places one.1 (get_or done k d).1 place 0 other in
            let old_place = placed k d earlier in
            let stays = kept (get_or places (get_or done k d).1 0) old_place.0 in
            (omega (arith, at, stays.0), ap (term_at new) at ∙ stays.1 ∙ old_place.1)

    go : ((k < length done) ⊎ (length done ≤ k)) → (get_or now (get_or (done ++ one ∷ []) k d).1 0 < length new) × (term_at new (get_or now (get_or (done ++ one ∷ []) k d).1 0) ≡ (get_or (done ++ one ∷ []) k d).0)
    go (inl earlier) = subst (λ x. (get_or now x.1 0 < length new) × (term_at new (get_or now x.1 0) ≡ x.0)) (sym (get_or_append_left done (one ∷ []) d k earlier)) (before earlier)
    go (inr behind) =
        let here : k ≡ length done + 0 = omega (arith, length-append done (one ∷ [])) in
        subst (λ x. (get_or now x.1 0 < length new) × (term_at new (get_or now x.1 0) ≡ x.0)) (sym (ap (λ n. get_or (done ++ one ∷ []) n d) here ∙ get_or-append-add done (one ∷ []) 0 d)) last

pub more_texts : (t : Text) (old new : List Text) (done : List (Text × ℕ)) (one : Text × ℕ) → has_text t old ≡ has_text t (texts_numbered done) → has_text t new ≡ (has_text t old || same_text t one.0)
    → has_text t new ≡ has_text t (texts_numbered (done ++ one ∷ []))
more_texts t old new done one was is =
    is ∙ ap (λ b. b || same_text t one.0) was ∙ sym (has_text-push one.0 t (texts_numbered done)) ∙ ap (has_text t) (sym (map_push (λ (x : Text × ℕ). x.0) done one))
