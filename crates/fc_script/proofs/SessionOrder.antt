-- The sessions of a script, one after another.
use Rattle.std.proofs.Common.{◌≡◌, List, [], ◌∷◌, ◌++◌, Bool, true, false, not, cond, ◌||◌, refl, sym, ◌∙◌, ap, append-nil}
use Rattle.std.specs.List.{list_any, filter}
use Rattle.std.proofs.lemmas.List.Elements.{filter-append}
use Rattle.fc_spec.proofs.words.Texts.{same_text_equiv, equal}
use Rattle.fc_spec.specs.documents.Val.{Text, same_text}
use Rattle.fc_spec.specs.scripts.ScriptTotals.{first_ones}
use Rattle.fc_script.specs.Sessions.{with_session}

-- another text is still among those that are not u
still_among : (t u : Text) (ts : List Text) → same_text u t ≡ false → list_any (same_text t) (filter (λ w. not (same_text u w)) ts) ≡ list_any (same_text t) ts
still_among t u [] apart = refl
still_among t u (w ∷ ws) apart = go (same_text u w) (same_text t w) refl refl (still_among t u ws apart)
  where
    go : (b c : Bool) → same_text u w ≡ b → same_text t w ≡ c → list_any (same_text t) (filter (λ x. not (same_text u x)) ws) ≡ list_any (same_text t) ws
        → list_any (same_text t) (cond (not b) (w ∷ filter (λ x. not (same_text u x)) ws) (filter (λ x. not (same_text u x)) ws)) ≡ (c || list_any (same_text t) ws)
    go false c b_is c_is rest = ap (λ d. d || list_any (same_text t) (filter (λ x. not (same_text u x)) ws)) c_is ∙ ap (λ d. c || d) rest
    go true true b_is c_is rest = let same : t ≡ w = equal t w c_is in let clash : false ≡ true = sym apart ∙ ap (same_text u) same ∙ b_is in cc
    go true false b_is c_is rest = rest

kept : (u t : Text) (ts : List Text) (b : Bool) → same_text u t ≡ b → filter (λ w. not (same_text u w)) (ts ++ t ∷ []) ≡ filter (λ w. not (same_text u w)) ts ++ cond b [] (t ∷ [])
kept u t ts true is = filter-append (λ w. not (same_text u w)) ts (t ∷ []) ∙ rw is refl
kept u t ts false is = filter-append (λ w. not (same_text u w)) ts (t ∷ []) ∙ rw is refl

-- one more search
pub first_ones-append : (ts : List Text) (t : Text) → first_ones (ts ++ t ∷ []) ≡ with_session (first_ones ts) t
first_ones-append [] t = refl
first_ones-append (u ∷ ts) t =
    ap (λ us. u ∷ filter (λ w. not (same_text u w)) us) (first_ones-append ts t) ∙ go (same_text u t) (list_any (same_text t) (first_ones ts)) refl refl
  where
    others : List Text
    others = filter (λ w. not (same_text u w)) (first_ones ts)

    go : (b c : Bool) → same_text u t ≡ b → list_any (same_text t) (first_ones ts) ≡ c
        → u ∷ filter (λ w. not (same_text u w)) (cond (list_any (same_text t) (first_ones ts)) (first_ones ts) (first_ones ts ++ t ∷ [])) ≡ with_session (u ∷ others) t
    go true true b_is c_is = rw (c_is, same_text_equiv.symm t u, b_is) refl
    go true false b_is c_is = rw (c_is, same_text_equiv.symm t u, b_is) (ap (λ us. u ∷ us) (kept u t (first_ones ts) true b_is ∙ append-nil others))
    go false true b_is c_is = rw (c_is, same_text_equiv.symm t u, b_is, still_among t u (first_ones ts) b_is, c_is) refl
    go false false b_is c_is = rw (c_is, same_text_equiv.symm t u, b_is, still_among t u (first_ones ts) b_is, c_is) (ap (λ us. u ∷ us) (kept u t (first_ones ts) false b_is))
