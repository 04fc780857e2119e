-- The searches of a script, phase after phase, are all of them in order.
use Rattle.std.proofs.Common.{◌≡◌, ℕ, zero, suc, ◌+◌, ◌<◌, ◌≤◌, List, [], ◌∷◌, ◌++◌, map, Bool, true, false, ◌==◌, count_by, refl, ◌∙◌, ap, arith}
use Rattle.std.specs.List.{filter, range_with_len}
use Rattle.std.proofs.lemmas.Bool.{ne_eqb, eqb-true, eqb-false}
use Rattle.fc_spec.specs.words.Lists.{joined}
use Rattle.fc_spec.specs.scripts.Script.{Script, is_sync}
use Rattle.fc_spec.specs.scripts.Phases.{Search, searches, phase}
use Rattle.fc_spec.specs.laws.ScriptLaws.{StandByPhase}
use Rattle.fc_spec.proofs.scripts.RisingPhases.{Climbs, climbs_from, searches_climb}

-- the searches of one phase
abbrev in_phase : {A : Type 0} → List (Search A) → ℕ → List (Search A)
in_phase qs p = filter (λ q. q.phase == p) qs

-- the searches of n phases from p on, one phase after another
abbrev by_phase : {A : Type 0} → List (Search A) → ℕ → ℕ → List (Search A)
by_phase qs p n = joined (map (in_phase qs) (range_with_len p n))

-- a search of an earlier phase is not among them
by_phase-earlier : {A : Type 0} (q : Search A) (qs : List (Search A)) (p n : ℕ) → q.phase < p → by_phase (q ∷ qs) p n ≡ by_phase qs p n
by_phase-earlier q qs p zero h = refl
by_phase-earlier q qs p (suc n) h = rw (ne_eqb q.phase p (λ e. omega arith)) (ap (λ rest. in_phase qs p ++ rest) (by_phase-earlier q qs (p + 1) n (omega arith)))

-- no search is of a phase before the first
in_phase-none : {A : Type 0} (qs : List (Search A)) (p low high : ℕ) → p < low → Climbs low high qs → in_phase qs p ≡ []
in_phase-none [] p low high h c = refl
in_phase-none (q ∷ qs) p low high h c = let first = c.0 in rw (ne_eqb q.phase p (λ e. omega arith)) (in_phase-none qs p q.phase high (omega arith) c.2)

-- the first search is of the first phase, or none is
by_phase-first : {A : Type 0} (q : Search A) (qs : List (Search A)) (p n high : ℕ) → Climbs p high (q ∷ qs)
    → (Climbs p high qs → by_phase qs p (suc n) ≡ qs) → (Climbs (p + 1) high (q ∷ qs) → by_phase (q ∷ qs) (p + 1) n ≡ q ∷ qs) → by_phase (q ∷ qs) p (suc n) ≡ q ∷ qs
by_phase-first q qs p n high c rest next = go (q.phase == p) refl
  where
    go : (b : Bool) → (q.phase == p) ≡ b → by_phase (q ∷ qs) p (suc n) ≡ q ∷ qs
    go true e =
        let here = eqb-true q.phase p e in
        rw e (ap (λ more. q ∷ (in_phase qs p ++ more)) (by_phase-earlier q qs (p + 1) n (omega arith)) ∙ ap (λ more. q ∷ more) (rest (climbs_from p q.phase high qs (omega arith) c.2)))
    go false e =
        let later : p + 1 ≤ q.phase = (let other = eqb-false q.phase p e in let low = c.0 in omega arith) in
        rw (e, in_phase-none qs p q.phase high (omega arith) c.2) (next (later, c.1, c.2))

by_phase-all : {A : Type 0} (n : ℕ) (qs : List (Search A)) (p high : ℕ) → high < p + n → Climbs p high qs → by_phase qs p n ≡ qs
by_phase-all zero [] p high h c = refl
by_phase-all zero (q ∷ qs) p high h c = let low = c.0 in let up = c.1 in absurd (omega arith)
by_phase-all (suc n) [] p high h c = by_phase-all n [] (p + 1) high (omega arith) tt
by_phase-all (suc n) (q ∷ qs) p high h c =
    by_phase-first q qs p n high c (λ d. by_phase-all (suc n) qs p high h d) (λ d. by_phase-all n (q ∷ qs) (p + 1) high (omega arith) d)

searches_of : {A : Type 0} (S : Script A) (ps : List ℕ) → map (λ p. p.searches) (map (phase S) ps) ≡ map (in_phase (searches S.lines)) ps
searches_of S [] = refl
searches_of S (p ∷ ps) = ap (λ rest. in_phase (searches S.lines) p ∷ rest) (searches_of S ps)

pub stand_by_phase : StandByPhase
stand_by_phase S =
    let last = count_by is_sync S.lines in
    ap joined (searches_of S (range_with_len 0 (last + 1))) ∙ by_phase-all (last + 1) (searches S.lines) 0 last (omega arith) (searches_climb S.lines)
