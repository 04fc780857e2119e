-- Sums over lists that are joined, and over lists that share out the members of another.
use Rattle.std.proofs.Common.{◌≡◌, ℕ, zero, suc, ◌+◌, ◌<◌, ◌≤◌, List, [], ◌∷◌, length, map, take, Bool, true, false, cond, ◌==◌, Option, None, Some, refl, sym, ◌∙◌, ap, zero-add, arith}
use Rattle.std.specs.Prelude.{sum_by}
use Rattle.std.specs.List.{filter_map, cons_option, enumerate_from, flat_map, range_with_len}
use Rattle.std.proofs.lemmas.Bool.{ne_eqb, eqb-true}
use Rattle.std.proofs.lemmas.List.Sums.{sum_by-cons, sum_by-append}
use Rattle.fc_spec.specs.words.Lists.{joined}

pub sum_by-ones : {X : Type 0} (xs : List X) → sum_by (λ x. 1) xs ≡ length xs
sum_by-ones [] = refl
sum_by-ones (x ∷ xs) = sum_by-cons (λ y. 1) x xs ∙ (let rest = sum_by-ones xs in omega arith)

pub sum_by-none : {X : Type 0} (f : X → ℕ) (xs : List X) → ((x : X) → f x ≡ 0) → sum_by f xs ≡ 0
sum_by-none f [] none = refl
sum_by-none f (x ∷ xs) none = sum_by-cons f x xs ∙ (let here = none x in let rest = sum_by-none f xs none in omega arith)

sum_by-plus : {X : Type 0} (f g : X → ℕ) (xs : List X) → sum_by (λ x. f x + g x) xs ≡ sum_by f xs + sum_by g xs
sum_by-plus f g [] = refl
sum_by-plus f g (x ∷ xs) =
    let rest = sum_by-plus f g xs in
    omega (arith, sum_by-cons (λ y. f y + g y) x xs, sum_by-cons f x xs, sum_by-cons g x xs, rest)

-- ---- joined lists

pub sum_by-flat_map : {X Y : Type 0} (f : Y → ℕ) (h : X → List Y) (xs : List X) → sum_by f (flat_map h xs) ≡ sum_by (λ x. sum_by f (h x)) xs
sum_by-flat_map f h [] = refl
sum_by-flat_map f h (x ∷ xs) = sum_by-append f (h x) (flat_map h xs) ∙ ap (λ n. sum_by f (h x) + n) (sum_by-flat_map f h xs) ∙ sym (sum_by-cons (λ y. sum_by f (h y)) x xs)

pub sum_by-joined : {X Y : Type 0} (f : Y → ℕ) (h : X → List Y) (xs : List X) → sum_by f (joined (map h xs)) ≡ sum_by (λ x. sum_by f (h x)) xs
sum_by-joined f h [] = refl
sum_by-joined f h (x ∷ xs) = sum_by-append f (h x) (joined (map h xs)) ∙ ap (λ n. sum_by f (h x) + n) (sum_by-joined f h xs) ∙ sym (sum_by-cons (λ y. sum_by f (h y)) x xs)

-- the first k lists have no more than all
pub sum_by-first : {Y : Type 0} (f : Y → ℕ) (k : ℕ) (xss : List (List Y)) → sum_by f (joined (take k xss)) ≤ sum_by f (joined xss)
sum_by-first f zero [] = omega arith
sum_by-first f zero (xs ∷ xss) = omega arith
sum_by-first f (suc k) [] = omega arith
sum_by-first f (suc k) (xs ∷ xss) = omega (arith, sum_by-append f xs (joined (take k xss)), sum_by-append f xs (joined xss), sum_by-first f k xss)

-- ---- members that are shared out

-- what there is of a value
abbrev pub of_option : {Y : Type 0} → (Y → ℕ) → Option Y → ℕ
of_option f None = 0
of_option f (Some y) = f y

sum_by-cons_option : {Y : Type 0} (f : Y → ℕ) (o : Option Y) (ys : List Y) → sum_by f (cons_option o ys) ≡ of_option f o + sum_by f ys
sum_by-cons_option f None ys = omega arith
sum_by-cons_option f (Some y) ys = sum_by-cons f y ys

-- lists that take of each member no more than there is have together no more than all; members may be measured as another thing there
pub sum_by-shared_as : {X Y Z J : Type 0} (f : Y → ℕ) (g : Z → ℕ) (pick : J → X → Option Y) (all : X → Option Z) (js : List J)
    → ((x : X) → sum_by (λ j. of_option f (pick j x)) js ≤ of_option g (all x)) → (xs : List X) → sum_by (λ j. sum_by f (filter_map (pick j) xs)) js ≤ sum_by g (filter_map all xs)
sum_by-shared_as f g pick all js share [] = let none = sum_by-none (λ j. 0) js (λ j. refl) in omega arith
sum_by-shared_as f g pick all js share (x ∷ xs) =
    let split : sum_by (λ j. sum_by f (filter_map (pick j) (x ∷ xs))) js ≡ sum_by (λ j. of_option f (pick j x)) js + sum_by (λ j. sum_by f (filter_map (pick j) xs)) js =
    (λ i. sum_by (λ j. sum_by-cons_option f (pick j x) (filter_map (pick j) xs) i) js) ∙ sum_by-plus (λ j. of_option f (pick j x)) (λ j. sum_by f (filter_map (pick j) xs)) js in
    omega (arith, split, sum_by-cons_option g (all x) (filter_map all xs), share x, sum_by-shared_as f g pick all js share xs)

pub sum_by-shared : {X Y J : Type 0} (f : Y → ℕ) (pick : J → X → Option Y) (all : X → Option Y) (js : List J)
    → ((x : X) → sum_by (λ j. of_option f (pick j x)) js ≤ of_option f (all x)) → (xs : List X) → sum_by (λ j. sum_by f (filter_map (pick j) xs)) js ≤ sum_by f (filter_map all xs)
sum_by-shared f pick all js share xs = sum_by-shared_as f f pick all js share xs

-- the part with a number
abbrev pub part : {Y : Type 0} → ℕ → Option Y → ℕ → Option Y
part k o j = cond (k == j) o None

parts_past : {Y : Type 0} (f : Y → ℕ) (k : ℕ) (o : Option Y) (a n : ℕ) → k < a → sum_by (λ j. of_option f (part k o j)) (range_with_len a n) ≡ 0
parts_past f k o a zero past = refl
parts_past f k o a (suc n) past =
    sum_by-cons (λ j. of_option f (part k o j)) a (range_with_len (a + 1) n) ∙ rw (ne_eqb k a (λ e. omega arith), zero-add) (parts_past f k o (a + 1) n (omega arith))

-- of parts with different numbers one has it all
pub sum_by-part : {Y : Type 0} (f : Y → ℕ) (k : ℕ) (o : Option Y) (a n : ℕ) → sum_by (λ j. of_option f (part k o j)) (range_with_len a n) ≤ of_option f o
sum_by-part f k o a zero = omega arith
sum_by-part f k o a (suc n) = go (k == a) refl (sum_by-part f k o (a + 1) n)
  where
    whole : sum_by (λ j. of_option f (part k o j)) (range_with_len a (suc n)) ≡ of_option f (part k o a) + sum_by (λ j. of_option f (part k o j)) (range_with_len (a + 1) n)
    whole = sum_by-cons (λ j. of_option f (part k o j)) a (range_with_len (a + 1) n)

    go : (b : Bool) → (k == a) ≡ b → sum_by (λ j. of_option f (part k o j)) (range_with_len (a + 1) n) ≤ of_option f o → sum_by (λ j. of_option f (part k o j)) (range_with_len a (suc n)) ≤ of_option f o
    go true e rest =
        let here : of_option f (part k o a) ≡ of_option f o = ap (λ b. of_option f (cond b o None)) e in
        let past = parts_past f k o (a + 1) n (let same = eqb-true k a e in omega arith) in
        omega (arith, whole, here, past)
    go false e rest =
        let here : of_option f (part k o a) ≡ 0 = ap (λ b. of_option f (cond b o None)) e in
        omega (arith, whole, here, rest)

-- ---- numbered members

pub filter_map-enumerate : {X Y : Type 0} (h : X → Option Y) (a : ℕ) (xs : List X) → filter_map (λ n. h n.1) (enumerate_from a xs) ≡ filter_map h xs
filter_map-enumerate h a [] = refl
filter_map-enumerate h a (x ∷ xs) = ap (cons_option (h x)) (filter_map-enumerate h (a + 1) xs)
