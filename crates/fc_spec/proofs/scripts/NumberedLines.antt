-- What depends on the number of earlier lines that pass a test is told line by line.
use Rattle.std.proofs.Common.{◌≡◌, ℕ, ◌+◌, ◌≤◌, List, [], ◌∷◌, ◌++◌, length, take, Bool, true, false, cond, count_by, Option, None, Some, refl, sym, ◌∙◌, ap, arith, append_assoc, length-append}
use Rattle.std.specs.List.{filter_map, cons_option, enumerate_from}
use Rattle.fc_spec.specs.scripts.Script.{Line, earlier}
use Rattle.fc_spec.proofs.words.Counting.{count_by-cons, count_by-push}

-- the number with one more where the test passes
abbrev pub counted : Bool → ℕ → ℕ
counted true c = 1 + c
counted false c = c

-- what h gives of the lines, each with the number of those before it that pass, behind c that do
abbrev pub walk : {A X : Type 0} → (ℕ → Line A → Option X) → (Line A → Bool) → ℕ → List (Line A) → List X
walk h test c [] = []
walk h test c (x ∷ xs) = cons_option (h c x) (walk h test (counted (test x) c) xs)

-- how many lines pass p, each with that number
abbrev pub walk_count : {A : Type 0} → (ℕ → Line A → Bool) → (Line A → Bool) → ℕ → List (Line A) → ℕ
walk_count p test c [] = 0
walk_count p test c (x ∷ xs) = counted (p c x) (walk_count p test (counted (test x) c) xs)

-- how many pass behind all of them
abbrev pub walked : {A : Type 0} → (Line A → Bool) → ℕ → List (Line A) → ℕ
walked test c [] = c
walked test c (x ∷ xs) = walked test (counted (test x) c) xs

-- ---- numbers of earlier lines

take_front : {X : Type 0} (xs ys : List X) → take (length xs) (xs ++ ys) ≡ xs
take_front [] ys = refl
take_front (x ∷ xs) ys = ap (λ zs. x ∷ zs) (take_front xs ys)

earlier_here : {A : Type 0} (test : Line A → Bool) (front rest : List (Line A)) → earlier test (front ++ rest) (length front) ≡ count_by test front
earlier_here test front rest = ap (count_by test) (take_front front rest)

last_counted : (b : Bool) (n : ℕ) → n + cond b 1 0 ≡ counted b n
last_counted true n = omega arith
last_counted false n = omega arith

first_counted : (b : Bool) (n : ℕ) → cond b 1 0 + n ≡ counted b n
first_counted true n = omega arith
first_counted false n = omega arith

pub count_first : {A : Type 0} (test : Line A → Bool) (x : Line A) (xs : List (Line A)) → count_by test (x ∷ xs) ≡ counted (test x) (count_by test xs)
count_first test x xs = count_by-cons test x xs ∙ first_counted (test x) (count_by test xs)

pub one_more : {A : Type 0} (test : Line A → Bool) (front : List (Line A)) (x : Line A) → count_by test (front ++ x ∷ []) ≡ counted (test x) (count_by test front)
one_more test front x = count_by-push test front x ∙ last_counted (test x) (count_by test front)

counted_sum : (b : Bool) (c n : ℕ) → counted b c + n ≡ c + counted b n
counted_sum true c n = omega arith
counted_sum false c n = omega arith

walked_is : {A : Type 0} (test : Line A → Bool) (c : ℕ) (xs : List (Line A)) → walked test c xs ≡ c + count_by test xs
walked_is test c [] = omega arith
walked_is test c (x ∷ xs) = walked_is test (counted (test x) c) xs ∙ counted_sum (test x) c (count_by test xs) ∙ ap (λ n. c + n) (sym (count_first test x xs))

pub walked_all : {A : Type 0} (test : Line A → Bool) (xs : List (Line A)) → walked test 0 xs ≡ count_by test xs
walked_all test xs = let is = walked_is test 0 xs in omega arith

pub counted_more : (b : Bool) (c : ℕ) → c ≤ counted b c
counted_more true c = omega arith
counted_more false c = omega arith

pub walked_more : {A : Type 0} (test : Line A → Bool) (c : ℕ) (xs : List (Line A)) → c ≤ walked test c xs
walked_more test c xs = let is = walked_is test c xs in omega arith

-- ---- line by line

-- the front with one line more
pub moved : {A : Type 0} (front : List (Line A)) (x : Line A) (xs : List (Line A)) → (front ++ x ∷ []) ++ xs ≡ front ++ x ∷ xs
moved front x xs = append_assoc front (x ∷ []) xs

length_moved : {A : Type 0} (front : List (Line A)) (x : Line A) → length (front ++ x ∷ []) ≡ length front + 1
length_moved front x = length-append front (x ∷ [])

pub filter_map_numbered : {A X : Type 0} (h : ℕ → Line A → Option X) (test : Line A → Bool) (front xs : List (Line A))
    → filter_map (λ n. h (earlier test (front ++ xs) n.0) n.1) (enumerate_from (length front) xs) ≡ walk h test (count_by test front) xs
filter_map_numbered h test front [] = refl
filter_map_numbered {A} {X} h test front (x ∷ xs) =
    let rest = sym (λ i. filter_map (λ n. h (earlier test (moved front x xs i) n.0) n.1) (enumerate_from (length_moved front x i) xs))
    ∙ filter_map_numbered h test (front ++ x ∷ []) xs ∙ ap (λ c. walk h test c xs) (one_more test front x) in
    λ i. cons_option (h (earlier_here test front (x ∷ xs) i) x) (rest i)

pub count_by_numbered : {A : Type 0} (p : ℕ → Line A → Bool) (test : Line A → Bool) (front xs : List (Line A))
    → count_by (λ n. p (earlier test (front ++ xs) n.0) n.1) (enumerate_from (length front) xs) ≡ walk_count p test (count_by test front) xs
count_by_numbered p test front [] = refl
count_by_numbered p test front (x ∷ xs) =
    let rest = sym (λ i. count_by (λ n. p (earlier test (moved front x xs i) n.0) n.1) (enumerate_from (length_moved front x i) xs))
    ∙ count_by_numbered p test (front ++ x ∷ []) xs ∙ ap (λ c. walk_count p test c xs) (one_more test front x) in
    count_by-cons (λ n. p (earlier test (front ++ x ∷ xs) n.0) n.1) (length front, x) (enumerate_from (length front + 1) xs)
    ∙ (λ i. cond (p (earlier_here test front (x ∷ xs) i) x) 1 0 + rest i) ∙ first_counted (p (count_by test front) x) _

-- ---- two lists of lines

cons_append : {X : Type 0} (o : Option X) (xs ys : List X) → cons_option o (xs ++ ys) ≡ cons_option o xs ++ ys
cons_append None xs ys = refl
cons_append (Some x) xs ys = refl

pub walk-append : {A X : Type 0} (h : ℕ → Line A → Option X) (test : Line A → Bool) (c : ℕ) (xs ys : List (Line A)) → walk h test c (xs ++ ys) ≡ walk h test c xs ++ walk h test (walked test c xs) ys
walk-append h test c [] ys = refl
walk-append h test c (x ∷ xs) ys =
    ap (cons_option (h c x)) (walk-append h test (counted (test x) c) xs ys) ∙ cons_append (h c x) (walk h test (counted (test x) c) xs) (walk h test (walked test c (x ∷ xs)) ys)

counted_before : (b : Bool) (m n : ℕ) → counted b (m + n) ≡ counted b m + n
counted_before true m n = omega arith
counted_before false m n = refl

pub walk_count-append : {A : Type 0} (p : ℕ → Line A → Bool) (test : Line A → Bool) (c : ℕ) (xs ys : List (Line A)) → walk_count p test c (xs ++ ys) ≡ walk_count p test c xs + walk_count p test (walked test c xs) ys
walk_count-append p test c [] ys = omega arith
walk_count-append p test c (x ∷ xs) ys =
    ap (counted (p c x)) (walk_count-append p test (counted (test x) c) xs ys) ∙ counted_before (p c x) (walk_count p test (counted (test x) c) xs) (walk_count p test (walked test c (x ∷ xs)) ys)
