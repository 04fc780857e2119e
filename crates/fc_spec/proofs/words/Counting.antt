-- Counts and filters by what a test gives at the members of a list.
use Rattle.std.specs.Prelude.{◌≡◌, ◌+◌, List, [], ◌∷◌, ◌++◌, Bool, true, false, cond, count_by, All}
use Rattle.std.specs.List.{filter}
use Rattle.std.proofs.Common.{refl, ap, ◌∙◌}
use Rattle.std.proofs.lemmas.List.Elements.{All-head, All-tail}
use Rattle.std.proofs.lemmas.List.Sums.{sum_by-cons, sum_by_push}

-- one more member, which passes or not
pub count_by-cons : {X : Type 0} (p : X → Bool) (x : X) (xs : List X) → count_by p (x ∷ xs) ≡ cond (p x) 1 0 + count_by p xs
count_by-cons p = sum_by-cons (λ x. cond (p x) 1 0)

pub count_by-push : {X : Type 0} (p : X → Bool) (xs : List X) (x : X) → count_by p (xs ++ x ∷ []) ≡ count_by p xs + cond (p x) 1 0
count_by-push p = sum_by_push (λ x. cond (p x) 1 0)

-- no member passes
pub count_by-none : {X : Type 0} (p : X → Bool) (xs : List X) → All (λ x. p x ≡ false) xs → count_by p xs ≡ 0
count_by-none p [] h = refl
count_by-none {X} p (x ∷ xs) h =
    let P : X → Type 0 = λ y. p y ≡ false in
    let e = All-head P x xs h in
    count_by-cons p x xs ∙ rw (e, count_by-none p xs (All-tail P x xs h))

-- tests that agree at each member
pub filter_agrees_within : {X : Type 0} (p q : X → Bool) (xs : List X) → All (λ x. p x ≡ q x) xs → filter p xs ≡ filter q xs
filter_agrees_within p q [] h = refl
filter_agrees_within {X} p q (x ∷ xs) h =
    let P : X → Type 0 = λ y. p y ≡ q y in
    let e = All-head P x xs h in
    rw (e, filter_agrees_within p q xs (All-tail P x xs h))

-- a test that all members pass
pub filter-all : {X : Type 0} (xs : List X) → filter (λ x. true) xs ≡ xs
filter-all [] = refl
filter-all (x ∷ xs) = ap (λ l. x ∷ l) (filter-all xs)
