-- The place of a text among texts: how many stand below it.
use Rattle.std.proofs.Common.{◌≡◌, ℕ, ◌+◌, ◌<◌, ◌≤◌, Bool, true, false, not, ◌&&◌, ◌||◌, cond, List, [], ◌∷◌, count_by, nat_le, nat_lt, length, refl, sym, ap, ap₂, ◌∙◌, arith}
use Rattle.std.proofs.lemmas.Bool.{le-leb, lt-leb, lt-ltb, ltb-true, or_right}
use Rattle.std.proofs.lemmas.Bool.Decides.{nat_tests}
use Rattle.std.proofs.lemmas.List.Sums.{count_by-le-length}
use Rattle.std.specs.List.{list_any}
use Rattle.std.specs.Ordering.{is_lt, is_le}
use Rattle.fc_spec.specs.documents.Val.{Text, text_cmp, same_text}
use Rattle.fc_spec.proofs.words.Counting.{count_by-cons}
use Rattle.fc_spec.proofs.words.Texts.{equal}
use Rattle.fc_domain.proofs.TextOrder.{le-not_lt, lt-not_le, le_from_lt, lt_le, le_lt, lt_itself, le_itself}

-- ---- where one test passes, the other does
count_le : {X : Type 0} (p q : X → Bool) (xs : List X) → ((x : X) → p x ≡ true → q x ≡ true) → count_by p xs ≤ count_by q xs
count_le p q [] weaker = omega arith
count_le p q (x ∷ xs) weaker = go (p x) (q x) (weaker x) (count_by-cons p x xs) (count_by-cons q x xs) (count_le p q xs weaker)
  where
    go : (a b : Bool) → (a ≡ true → b ≡ true) → count_by p (x ∷ xs) ≡ cond a 1 0 + count_by p xs → count_by q (x ∷ xs) ≡ cond b 1 0 + count_by q xs
        → count_by p xs ≤ count_by q xs → count_by p (x ∷ xs) ≤ count_by q (x ∷ xs)
    go true true w e f h = omega arith
    go true false w e f h = let no : false ≡ true = w refl in cc
    go false true w e f h = omega arith
    go false false w e f h = omega arith

-- and one passes the other alone
count_lt : {X : Type 0} (p q : X → Bool) (xs : List X) → ((x : X) → p x ≡ true → q x ≡ true) → list_any (λ x. q x && not (p x)) xs ≡ true → count_by p xs < count_by q xs
count_lt p q [] weaker some = cc
count_lt p q (x ∷ xs) weaker some = go (p x) (q x) (weaker x) some (count_by-cons p x xs) (count_by-cons q x xs) (count_le p q xs weaker) (count_lt p q xs weaker)
  where
    go : (a b : Bool) → (a ≡ true → b ≡ true) → (b && not a || list_any (λ x. q x && not (p x)) xs) ≡ true
        → count_by p (x ∷ xs) ≡ cond a 1 0 + count_by p xs → count_by q (x ∷ xs) ≡ cond b 1 0 + count_by q xs
        → count_by p xs ≤ count_by q xs → (list_any (λ x. q x && not (p x)) xs ≡ true → count_by p xs < count_by q xs) → count_by p (x ∷ xs) < count_by q (x ∷ xs)
    go true true w s e f h k = let more = k s in omega arith
    go true false w s e f h k = let no : false ≡ true = w refl in cc
    go false true w s e f h k = omega arith
    go false false w s e f h k = let more = k s in omega arith

-- ---- a test that passes a text passes some text
any_from_same : (t : Text) (p : Text → Bool) (ts : List Text) → p t ≡ true → list_any (same_text t) ts ≡ true → list_any p ts ≡ true
any_from_same t p [] passes found = cc
any_from_same t p (u ∷ us) passes found = go (same_text t u) refl found (any_from_same t p us passes)
  where
    go : (b : Bool) → same_text t u ≡ b → (b || list_any (same_text t) us) ≡ true → (list_any (same_text t) us ≡ true → list_any p us ≡ true) → (p u || list_any p us) ≡ true
    go true e f h = ap (λ b. b || list_any p us) (ap p (sym (equal t u e)) ∙ passes)
    go false e f h = or_right (p u) (list_any p us) (h f)

nat_lt-not : (a b : ℕ) → nat_lt a b ≡ not (nat_le b a)
nat_lt-not a b = grind (arith, nat_tests)

module _ (ts : List Text) (t : Text) (among : list_any (same_text t) ts ≡ true) (u : Text) where
  pub below-le-below : nat_le (count_by (λ x. is_lt (text_cmp x u)) ts) (count_by (λ x. is_lt (text_cmp x t)) ts) ≡ is_le (text_cmp u t)
  below-le-below = go (is_le (text_cmp u t)) refl
    where
      go : (b : Bool) → is_le (text_cmp u t) ≡ b → nat_le (count_by (λ x. is_lt (text_cmp x u)) ts) (count_by (λ x. is_lt (text_cmp x t)) ts) ≡ b
      go true e = le-leb _ _ (count_le (λ x. is_lt (text_cmp x u)) (λ x. is_lt (text_cmp x t)) ts (λ x h. lt_le x u t h e))
      go false e =
          let later : is_lt (text_cmp t u) ≡ true = lt-not_le t u ∙ ap not e in
          lt-leb _ _ (count_lt (λ x. is_lt (text_cmp x t)) (λ x. is_lt (text_cmp x u)) ts (λ x h. lt_le x t u h (le_from_lt t u later))
          (any_from_same t (λ x. is_lt (text_cmp x u) && not (is_lt (text_cmp x t))) ts (ap₂ (λ a b. a && not b) later (lt_itself t)) among))

  pub up_to-le-below : nat_le (count_by (λ x. is_le (text_cmp x u)) ts) (count_by (λ x. is_lt (text_cmp x t)) ts) ≡ is_lt (text_cmp u t)
  up_to-le-below = go (is_lt (text_cmp u t)) refl
    where
      go : (b : Bool) → is_lt (text_cmp u t) ≡ b → nat_le (count_by (λ x. is_le (text_cmp x u)) ts) (count_by (λ x. is_lt (text_cmp x t)) ts) ≡ b
      go true e = le-leb _ _ (count_le (λ x. is_le (text_cmp x u)) (λ x. is_lt (text_cmp x t)) ts (λ x h. le_lt x u t h e))
      go false e =
          let later : is_le (text_cmp t u) ≡ true = le-not_lt t u ∙ ap not e in
          lt-leb _ _ (count_lt (λ x. is_lt (text_cmp x t)) (λ x. is_le (text_cmp x u)) ts (λ x h. le_from_lt x u (lt_le x t u h later))
          (any_from_same t (λ x. is_le (text_cmp x u) && not (is_lt (text_cmp x t))) ts (ap₂ (λ a b. a && not b) later (lt_itself t)) among))

  pub below-lt-below : nat_lt (count_by (λ x. is_lt (text_cmp x t)) ts) (count_by (λ x. is_lt (text_cmp x u)) ts) ≡ is_lt (text_cmp t u)
  below-lt-below = nat_lt-not _ _ ∙ ap not below-le-below ∙ sym (lt-not_le t u)

  pub below-lt-up_to : nat_lt (count_by (λ x. is_lt (text_cmp x t)) ts) (count_by (λ x. is_le (text_cmp x u)) ts) ≡ is_le (text_cmp t u)
  below-lt-up_to = nat_lt-not _ _ ∙ ap not up_to-le-below ∙ sym (le-not_lt t u)

-- a text among them has a place before their end
pub below-lt-length : (ts : List Text) (t : Text) → list_any (same_text t) ts ≡ true → nat_lt (count_by (λ x. is_lt (text_cmp x t)) ts) (length ts) ≡ true
below-lt-length ts t among =
    let inside = ltb-true _ _ (below-lt-up_to ts t among t ∙ le_itself t) in
    lt-ltb _ _ (omega (arith, inside, count_by-le-length (λ x. is_le (text_cmp x t)) ts))
