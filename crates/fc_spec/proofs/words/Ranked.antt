-- Filters by rank over a list in which each member stands ahead of every later one.
use Rattle.std.specs.Prelude.{◌≡◌, ℕ, suc, List, [], ◌∷◌, Bool, true, false, count_by, All, AllPairs}
use Rattle.std.specs.List.{filter}
use Rattle.std.proofs.Common.{refl, ap, ◌∙◌, arith, get_or}
use Rattle.std.proofs.lemmas.List.Elements.{All-cons}
use Rattle.std.proofs.lemmas.Bool.{false_from_ne_true, both_ways}
use Rattle.fc_spec.proofs.words.Counting.{count_by-cons, count_by-none, filter_agrees_within}
use Rattle.fc_spec.proofs.words.Picked.{picked}

-- how many of a list stand ahead of e
abbrev pub place : {X : Type 0} → (X → X → Bool) → List X → X → ℕ
place before xs e = count_by (λ w. before w e) xs

-- each member stands ahead of every later one
abbrev pub Ascends : {X : Type 0} → (X → X → Bool) → List X → Type 0
Ascends before xs = AllPairs (λ a b. before a b ≡ true) xs

module _ {X : Type 0} (before : X → X → Bool) (one_way : (a b : X) → before a b ≡ true → before b a ≡ false) where
  -- the first member stands ahead of each later one
  ascends_head : (x : X) (xs : List X) → Ascends before (x ∷ xs) → All (λ y. before x y ≡ true) xs
  ascends_head x xs h k d l = h 0 (suc k) d (omega arith) (omega arith)

  -- the same of the later members
  ascends_tail : (x : X) (xs : List X) → Ascends before (x ∷ xs) → Ascends before xs
  ascends_tail x xs h i j d l m = h (suc i) (suc j) d (omega arith) (omega arith)

  -- no member stands ahead of itself
  pub not_before_itself : (x : X) → before x x ≡ false
  not_before_itself x = false_from_ne_true (before x x) (λ h. both_ways (before x x) (one_way x x h) h)

  -- none stands ahead of the first member
  place-first : (x : X) (xs : List X) → Ascends before (x ∷ xs) → place before (x ∷ xs) x ≡ 0
  place-first x xs h =
      let P : X → Type 0 = λ w. before w x ≡ false in
      count_by-none (λ w. before w x) (x ∷ xs) (All-cons P x xs (not_before_itself x) (λ k d l. one_way x (get_or xs k d) (ascends_head x xs h k d l)))

  -- of a later member, the first stands ahead, and those of the rest
  place-later : (x : X) (xs : List X) → Ascends before (x ∷ xs) → All (λ y. place before (x ∷ xs) y ≡ suc (place before xs y)) xs
  place-later x xs h k d l = count_by-cons (λ w. before w (get_or xs k d)) x xs ∙ rw (ascends_head x xs h k d l) (omega arith)

  -- a test of the place of each member picks positions
  pub filter_by_place : (t : ℕ → Bool) (xs : List X) → Ascends before xs → filter (λ e. t (place before xs e)) xs ≡ picked t xs
  filter_by_place t [] h = refl
  filter_by_place t (x ∷ xs) h =
      let first = place-first x xs h in
      let rest = filter_agrees_within (λ e. t (place before (x ∷ xs) e)) (λ e. t (suc (place before xs e))) xs (λ k d l. ap t (place-later x xs h k d l)) in
      rw (first, rest, filter_by_place (λ n. t (suc n)) xs (ascends_tail x xs h))
