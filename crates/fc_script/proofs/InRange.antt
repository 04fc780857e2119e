-- Tests of each number below another.
use Rattle.std.proofs.Common.{◌≡◌, ℕ, zero, suc, ◌+◌, ◌<◌, ◌≤◌, Bool, true, false, refl, sym, ◌∙◌, ap, arith, inl, inr}
use Rattle.std.specs.List.{list_all, range_with_len}
use Rattle.std.proofs.lemmas.Bool.{and_parts, cases_eq}

all_from : (p : ℕ → Bool) (a n : ℕ) → ((k : ℕ) → a ≤ k → k < a + n → p k ≡ true) → list_all p (range_with_len a n) ≡ true
all_from p a zero passes = refl
all_from p a (suc n) passes = rw (passes a (omega arith) (omega arith)) (all_from p (a + 1) n (λ k low high. passes k (omega arith) (omega arith)))

-- the test passes at each number below n
pub all_below : (p : ℕ → Bool) (n : ℕ) → ((k : ℕ) → k < n → p k ≡ true) → list_all p (range_with_len 0 n) ≡ true
all_below p n passes = all_from p 0 n (λ k low high. passes k (omega arith))

passes_from : (p : ℕ → Bool) (a n k : ℕ) → list_all p (range_with_len a n) ≡ true → a ≤ k → k < a + n → p k ≡ true
passes_from p a zero k all low high = absurd (omega arith)
passes_from p a (suc n) k all low high =
    let parts = and_parts (p a) (list_all p (range_with_len (a + 1) n)) all in
    elim (cases_eq k a) [ inl here ↦ ap p here ∙ parts.0 | inr later ↦ passes_from p (a + 1) n k parts.1 (omega arith) (omega arith) ]

-- where all pass, each does
pub each_below : (p : ℕ → Bool) (n k : ℕ) → list_all p (range_with_len 0 n) ≡ true → k < n → p k ≡ true
each_below p n k all below = passes_from p 0 n k all (omega arith) (omega arith)

-- where not all pass a test, not all pass one that asks more
pub still_fails : (p q : ℕ → Bool) (n : ℕ) → ((k : ℕ) → k < n → q k ≡ true → p k ≡ true) → list_all p (range_with_len 0 n) ≡ false → list_all q (range_with_len 0 n) ≡ false
still_fails p q n more fails = go (list_all q (range_with_len 0 n)) refl
  where
    go : (b : Bool) → list_all q (range_with_len 0 n) ≡ b → b ≡ false
    go false is = refl
    go true is = sym (all_below p n (λ k below. more k below (each_below q n k is below))) ∙ fails
