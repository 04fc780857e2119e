-- Filters and permutations.
use Rattle.std.specs.Prelude.{◌≡◌, ◌≤◌, List, [], ◌∷◌, ◌++◌, length, IsPermutation, Bool, true, false, cond, ◌||◌}
use Rattle.std.specs.List.{filter}
use Rattle.std.proofs.Common.{refl, ap, ◌∙◌, arith}
use Rattle.std.proofs.lemmas.List.Sorted.{IsPermutation-refl, IsPermutation-cons, IsPermutation-middle, IsPermutation-sym, IsPermutation-trans}
use Rattle.fc_spec.proofs.words.Permuted.{holds_of_permutations}

-- one more member in front of both lists, which passes both filters or none
front_passes : {X : Type 0} (b : Bool) (x : X) (xs ys : List X) → IsPermutation xs ys → IsPermutation (cond b (x ∷ xs) xs) (cond b (x ∷ ys) ys)
front_passes true x xs ys h = IsPermutation-cons x xs ys h
front_passes false x xs ys h = h

-- two members in front, in either order
two_pass : {X : Type 0} (a b : Bool) (x y : X) (xs : List X)
    → IsPermutation (cond a (x ∷ cond b (y ∷ xs) xs) (cond b (y ∷ xs) xs)) (cond b (y ∷ cond a (x ∷ xs) xs) (cond a (x ∷ xs) xs))
two_pass true true x y xs = IsPermutation-middle (x ∷ []) y xs
two_pass true false x y xs = IsPermutation-refl (x ∷ xs)
two_pass false b x y xs = IsPermutation-refl (cond b (y ∷ xs) xs)

-- filters of permutations are permutations
pub IsPermutation-filter : {X : Type 0} (p : X → Bool) (xs ys : List X) → IsPermutation xs ys → IsPermutation (filter p xs) (filter p ys)
IsPermutation-filter p = holds_of_permutations (λ xs ys. IsPermutation (filter p xs) (filter p ys))
    (λ xs. IsPermutation-refl (filter p xs))
    (λ x xs ys h. front_passes (p x) x (filter p xs) (filter p ys) h)
    (λ x y xs. two_pass (p x) (p y) x y (filter p xs))
    (λ xs ys zs. IsPermutation-trans (filter p xs) (filter p ys) (filter p zs))

-- one more member in front, which passes one of two filters or none
front_passes_either : {X : Type 0} (a b : Bool) (x : X) (zs xs ys : List X) → (a ≡ true → b ≡ true → ⊥) → IsPermutation zs (xs ++ ys)
    → IsPermutation (cond (a || b) (x ∷ zs) zs) (cond a (x ∷ xs) xs ++ cond b (x ∷ ys) ys)
front_passes_either true true x zs xs ys apart h = absurd (apart refl refl)
front_passes_either true false x zs xs ys apart h = IsPermutation-cons x zs (xs ++ ys) h
front_passes_either false true x zs xs ys apart h =
    IsPermutation-trans _ _ _ (IsPermutation-cons x zs (xs ++ ys) h) (IsPermutation-sym _ _ (IsPermutation-middle xs x ys))
front_passes_either false false x zs xs ys apart h = h

-- what passes either of two tests, which no member passes both, is what passes the one and what passes the other
pub IsPermutation-filter_either : {X : Type 0} (p q : X → Bool) → ((x : X) → p x ≡ true → q x ≡ true → ⊥)
    → (xs : List X) → IsPermutation (filter (λ x. p x || q x) xs) (filter p xs ++ filter q xs)
IsPermutation-filter_either p q apart [] = IsPermutation-refl []
IsPermutation-filter_either p q apart (x ∷ xs) =
    front_passes_either (p x) (q x) x (filter (λ y. p y || q y) xs) (filter p xs) (filter q xs) (apart x) (IsPermutation-filter_either p q apart xs)

-- a permutation of a list of at most one member is that list
pub same_short_permutation : {X : Type 0} (xs ys : List X) → IsPermutation xs ys → length ys ≤ 1 → xs ≡ ys
same_short_permutation = holds_of_permutations (λ xs ys. length ys ≤ 1 → xs ≡ ys)
    (λ xs h. refl)
    (λ x xs ys e h. ap (λ l. x ∷ l) (e (omega arith)))
    (λ x y xs h. absurd (omega arith))
    (λ xs ys zs e f h. let g = f h in e (rw g h) ∙ g)
