-- Along a schedule the pins of a session on a shard never fall, from the shard's number at the start up to that of the phase's end.
use Rattle.std.proofs.Common.{◌≡◌, ◌⊎◌, ℕ, zero, suc, ◌+◌, ◌<◌, ◌≤◌, List, [], ◌∷◌, ◌++◌, length, get_or, set, Bool, true, false, cond, ◌&&◌, ◌==◌, slice_index, refl, sym, ap, subst, inl, inr, ◌∙◌, le_refl, arith}
use Rattle.std.proofs.lemmas.List.{get_or-set_same}
use Rattle.std.proofs.lemmas.Bool.{and_parts, ltb-true, eqb-true}
use Rattle.fc_spec.specs.scripts.PhaseCore.{Event, publish, pin, PhaseState, numbers_of, allows, after, is_schedule, behind, pinned_by, pins_on}

-- ---- numbers that never fall

-- from a lower bound up to an upper one
abbrev pub Rises : ℕ → ℕ → List ℕ → Type 0
Rises low high [] = Unit {0}
Rises low high (n ∷ ns) = (low ≤ n) × (n ≤ high) × Rises n high ns

rises_from : (low more high : ℕ) (ns : List ℕ) → low ≤ more → Rises more high ns → Rises low high ns
rises_from low more high [] le r = tt
rises_from low more high (n ∷ ns) le r = (omega arith, r.1, r.2)

pub rises_at : (low high : ℕ) (ns : List ℕ) (k : ℕ) → k < length ns → Rises low high ns → (low ≤ slice_index ns k) × (slice_index ns k ≤ high)
rises_at low high [] k there r = absurd (omega arith)
rises_at low high (n ∷ ns) zero there r = (r.0, r.1)
rises_at low high (n ∷ ns) (suc k) there r = let t = rises_at n high ns k (omega arith) r.2 in (omega arith, t.1)

pub rises_between : (low high : ℕ) (ns : List ℕ) (j k : ℕ) → j ≤ k → k < length ns → Rises low high ns → slice_index ns j ≤ slice_index ns k
rises_between low high [] j k le there r = absurd (omega arith)
rises_between low high (n ∷ ns) zero zero le there r = omega arith
rises_between low high (n ∷ ns) zero (suc k) le there r = (rises_at n high ns k (omega arith) r.2).0
rises_between low high (n ∷ ns) (suc j) zero le there r = absurd (omega arith)
rises_between low high (n ∷ ns) (suc j) (suc k) le there r = rises_between n high ns j k (omega arith) (omega arith) r.2

-- ---- lists with one member written

-- at each place stands what stood there, or what was written
set_cases : {X : Type 0} (xs : List X) (i j : ℕ) (v d : X) → (get_or (set xs i v) j d ≡ get_or xs j d) ⊎ ((j ≡ i) × (get_or (set xs i v) j d ≡ v))
set_cases [] i j v d = inl refl
set_cases (x ∷ xs) zero zero v d = inr (refl, refl)
set_cases (x ∷ xs) zero (suc j) v d = inl refl
set_cases (x ∷ xs) (suc i) zero v d = inl refl
set_cases (x ∷ xs) (suc i) (suc j) v d = elim (set_cases xs i j v d) [ inl e ↦ inl e | inr t ↦ inr (ap suc t.0, t.1) ]

-- a session that has a number on some shard is there
is_there : (xss : List (List ℕ)) (c s : ℕ) → s < length (get_or xss c []) → c < length xss
is_there [] c s h = absurd (omega arith)
is_there (xs ∷ xss) zero s h = omega arith
is_there (xs ∷ xss) (suc c) s h = let t = is_there xss c s h in omega arith

-- ---- along a schedule

-- no more is published on the shard than the phase's commits
abbrev pub IsWithin : ℕ → PhaseState → Type 0
IsWithin s x = slice_index x.published s ≤ slice_index x.last s

-- publishing never lowers a shard's number, and keeps it within the phase
publish_rises : (x : PhaseState) (t s : ℕ) → allows x (publish t) ≡ true → IsWithin s x → (slice_index x.published s ≤ slice_index (after x (publish t)).published s) × IsWithin s (after x (publish t))
publish_rises x t s may within =
    let below = ltb-true (slice_index x.published t) (slice_index x.last t) may in
    elim (set_cases x.published t s (slice_index x.published t + 1) 0) [
      | inl e ↦ (omega (arith, e), omega (arith, e))
      | inr w ↦ (let here = ap (λ i. slice_index x.published i) w.0 in let end = ap (λ i. slice_index x.last i) w.0 in (omega (arith, w.1, here), omega (arith, w.1, end)))
    ]

-- what a session pins is what is published
pinned_is_published : (x : PhaseState) (c s : ℕ) → allows x (pin c s) ≡ true → slice_index (numbers_of (after x (pin c s)) c) s ≡ slice_index x.published s
pinned_is_published x c s may =
    let on_shard = ltb-true s (length (numbers_of x c)) may in
    let row = set (numbers_of x c) s (slice_index x.published s) in
    ap (λ ns. slice_index ns s) (get_or-set_same x.pinned c row [] (is_there x.pinned c s on_shard)) ∙ get_or-set_same (numbers_of x c) s (slice_index x.published s) 0 on_shard

-- one more pin, of this session on this shard or not
one_pin : (c s : ℕ) (x : PhaseState) (d t : ℕ) (rest : List ℕ) → allows x (pin d t) ≡ true → IsWithin s x → Rises (slice_index x.published s) (slice_index x.last s) rest
    → Rises (slice_index x.published s) (slice_index x.last s) (pinned_by c s x (pin d t) ++ rest)
one_pin c s x d t rest may within rises = go (d == c && t == s) refl
  where
    go : (b : Bool) → (d == c && t == s) ≡ b → Rises (slice_index x.published s) (slice_index x.last s) (cond b (slice_index (numbers_of (after x (pin d t)) c) s ∷ []) [] ++ rest)
    go false e = rises
    go true e =
        let same = and_parts (d == c) (t == s) e in
        let mine : slice_index (numbers_of (after x (pin d t)) c) s ≡ slice_index x.published s =
        subst (λ (z : ℕ × ℕ). allows x (pin z.0 z.1) ≡ true → slice_index (numbers_of (after x (pin z.0 z.1)) c) s ≡ slice_index x.published s)
        (λ i. (sym (eqb-true d c same.0) i, sym (eqb-true t s same.1) i)) (pinned_is_published x c s) may in
        subst (λ (n : ℕ). Rises (slice_index x.published s) (slice_index x.last s) (n ∷ rest)) (sym mine) (le_refl (slice_index x.published s), within, rises)

pub pins_rise : (c s : ℕ) (x : PhaseState) (es : List Event) → is_schedule x es ≡ true → IsWithin s x → Rises (slice_index x.published s) (slice_index x.last s) (pins_on c s x es)
pins_rise c s x [] ok within = tt
pins_rise c s x (publish t ∷ es) ok within =
    let both = and_parts (allows x (publish t)) (is_schedule (after x (publish t)) es) ok in
    let step = publish_rises x t s both.0 within in
    rises_from (slice_index x.published s) (slice_index (after x (publish t)).published s) (slice_index x.last s) (pins_on c s (after x (publish t)) es) step.0
    (pins_rise c s (after x (publish t)) es both.1 step.1)
pins_rise c s x (pin d t ∷ es) ok within =
    let both = and_parts (allows x (pin d t)) (is_schedule (after x (pin d t)) es) ok in
    one_pin c s x d t (pins_on c s (after x (pin d t)) es) both.0 within (pins_rise c s (after x (pin d t)) es both.1 within)

-- no pin makes a number pass it
pin_within : (x : PhaseState) (d t c s : ℕ) → IsWithin s x → slice_index (numbers_of x c) s ≤ slice_index x.last s → slice_index (numbers_of (after x (pin d t)) c) s ≤ slice_index x.last s
pin_within x d t c s within pinned = elim (set_cases x.pinned d c (set (numbers_of x d) t (slice_index x.published t)) []) [
  | inl e ↦ (let same = ap (λ ns. slice_index ns s) e in omega (arith, same))
  | inr w ↦ (let mine = ap (λ ns. slice_index ns s) w.1 in elim (set_cases (numbers_of x d) t s (slice_index x.published t) 0) [
    | inl e ↦ (let own = ap (λ i. slice_index (numbers_of x i) s) w.0 in omega (arith, mine, e, own))
    | inr v ↦ (let here = ap (λ i. slice_index x.published i) v.0 in omega (arith, mine, v.1, here))
  ])
]

-- behind a schedule no session's number has passed that of the phase's end
pub pins_end_within : (c s : ℕ) (x : PhaseState) (es : List Event) → is_schedule x es ≡ true → IsWithin s x → slice_index (numbers_of x c) s ≤ slice_index x.last s
    → slice_index (numbers_of (behind x es) c) s ≤ slice_index x.last s
pins_end_within c s x [] ok within pinned = pinned
pins_end_within c s x (publish t ∷ es) ok within pinned =
    let both = and_parts (allows x (publish t)) (is_schedule (after x (publish t)) es) ok in
    let step = publish_rises x t s both.0 within in
    pins_end_within c s (after x (publish t)) es both.1 step.1 pinned
pins_end_within c s x (pin d t ∷ es) ok within pinned =
    let both = and_parts (allows x (pin d t)) (is_schedule (after x (pin d t)) es) ok in
    pins_end_within c s (after x (pin d t)) es both.1 within (pin_within x d t c s within pinned)
