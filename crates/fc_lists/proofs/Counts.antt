-- How many of a list pass a test.
use Rattle.std.proofs.Common.{◌≡◌, ℕ, zero, suc, ◌+◌, ◌<◌, ◌≤◌, Bool, true, false, cond, ◌==◌, nat_lt, List, [], ◌∷◌, length, get_or, count_by, All, refl, sym, ap, ap₂, ◌∙◌, arith}
use Rattle.std.proofs.lemmas.Bool.Decides.{nat_tests}
use Rattle.std.proofs.lemmas.List.Sums.{sum_by-le-sum_by}
use Rattle.fc_spec.proofs.words.Counting.{count_by-cons}

module _ {X : Type 0} (p : X → Bool) where
  pub count_same : (q : X → Bool) (xs : List X) → All (λ x. p x ≡ q x) xs → count_by p xs ≡ count_by q xs
  count_same q [] same = refl
  count_same q (x ∷ xs) same =
      count_by-cons p x xs
      ∙ ap₂ (λ b n. cond b 1 0 + n) (same 0 x (omega arith)) (count_same q xs (λ k d inside. same (suc k) d (omega arith)))
      ∙ sym (count_by-cons q x xs)

  pub count_all : (xs : List X) → All (λ x. p x ≡ true) xs → count_by p xs ≡ length xs
  count_all [] passes = refl
  count_all (x ∷ xs) passes =
      let rest = count_all xs (λ k d inside. passes (suc k) d (omega arith)) in
      count_by-cons p x xs ∙ ap (λ b. cond b 1 0 + count_by p xs) (passes 0 x (omega arith)) ∙ omega (arith, rest)

  pub count_none : (xs : List X) → All (λ x. p x ≡ false) xs → count_by p xs ≡ 0
  count_none [] fails = refl
  count_none (x ∷ xs) fails =
      let rest = count_none xs (λ k d inside. fails (suc k) d (omega arith)) in
      count_by-cons p x xs ∙ ap (λ b. cond b 1 0 + count_by p xs) (fails 0 x (omega arith)) ∙ omega (arith, rest)

-- ---- how many numbers are below one
module _ {X : Type 0} (key : X → ℕ) where
  pub below_mono : (low high : ℕ) (xs : List X) → low ≤ high → count_by (λ x. nat_lt (key x) low) xs ≤ count_by (λ x. nat_lt (key x) high) xs
  below_mono low high xs order = sum_by-le-sum_by (λ x. cond (nat_lt (key x) low) 1 0) (λ x. cond (nat_lt (key x) high) 1 0) xs (λ x. go (key x))
    where
      go : (n : ℕ) → cond (nat_lt n low) 1 0 ≤ cond (nat_lt n high) 1 0
      go n = grind (arith, nat_tests)

  one_more : (n k : ℕ) → cond (nat_lt n (k + 1)) 1 0 ≡ cond (nat_lt n k) 1 0 + cond (n == k) 1 0
  one_more n k = grind (arith, nat_tests)

  -- below the next number are those below this one, and this one
  pub below_next : (k : ℕ) (xs : List X) → count_by (λ x. nat_lt (key x) (k + 1)) xs ≡ count_by (λ x. nat_lt (key x) k) xs + count_by (λ x. key x == k) xs
  below_next k [] = refl
  below_next k (x ∷ xs) =
      let rest = below_next k xs in
      let here = one_more (key x) k in
      count_by-cons (λ y. nat_lt (key y) (k + 1)) x xs
      ∙ omega (arith, rest, here, count_by-cons (λ y. nat_lt (key y) k) x xs, count_by-cons (λ y. key y == k) x xs)

-- ---- how many pass a test that the front passes and the rest fails
pub count_at_point : {X : Type 0} (p : X → Bool) (xs : List X) (i : ℕ) → i ≤ length xs
    → ((k : ℕ) (d : X) → k < i → p (get_or xs k d) ≡ true) → ((k : ℕ) (d : X) → i ≤ k → k < length xs → p (get_or xs k d) ≡ false)
    → count_by p xs ≡ i
count_at_point p [] i within front rest = omega arith
count_at_point p (x ∷ xs) zero within front rest =
    let none = count_at_point p xs zero (omega arith) (λ k d below. absurd (omega arith)) (λ k d from below. rest (suc k) d (omega arith) (omega arith)) in
    count_by-cons p x xs ∙ ap (λ b. cond b 1 0 + count_by p xs) (rest 0 x (omega arith) (omega arith)) ∙ omega (arith, none)
count_at_point p (x ∷ xs) (suc i) within front rest =
    let more = count_at_point p xs i (omega arith) (λ k d below. front (suc k) d (omega arith)) (λ k d from below. rest (suc k) d (omega arith) (omega arith)) in
    count_by-cons p x xs ∙ ap (λ b. cond b 1 0 + count_by p xs) (front 0 x (omega arith)) ∙ omega (arith, more)
