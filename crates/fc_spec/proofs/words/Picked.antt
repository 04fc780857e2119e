-- The members of a list whose position passes a test.
use Rattle.std.specs.Prelude.{◌≡◌, ℕ, zero, suc, List, [], ◌∷◌, take, drop, Bool, false, cond, ◌==◌, nat_lt}
use Rattle.std.proofs.Common.{refl, ap, ◌∙◌}
use lib.Dec.{eqb-zero-suc, eqb-suc-zero, eqb-suc-suc, leb-zero, leb-suc-zero, leb-suc-suc}

-- the members at the positions that pass
abbrev pub picked : {X : Type 0} → (ℕ → Bool) → List X → List X
picked t [] = []
picked t (x ∷ xs) = cond (t 0) (x ∷ picked (λ n. t (suc n)) xs) (picked (λ n. t (suc n)) xs)

-- no position passes
picked-none : {X : Type 0} (t : ℕ → Bool) (xs : List X) → ((n : ℕ) → t n ≡ false) → picked t xs ≡ []
picked-none t [] h = refl
picked-none t (x ∷ xs) h = rw (h 0) (picked-none (λ n. t (suc n)) xs (λ n. h (suc n)))

-- one position passes
pub picked-one : {X : Type 0} (t : ℕ → Bool) (k : ℕ) (xs : List X) → ((n : ℕ) → t n ≡ (n == k)) → picked t xs ≡ take 1 (drop k xs)
picked-one t zero [] h = refl
picked-one t zero (x ∷ xs) h = rw (h 0) (ap (λ l. x ∷ l) (picked-none (λ n. t (suc n)) xs (λ n. h (suc n) ∙ eqb-suc-zero n)))
picked-one t (suc k) [] h = refl
picked-one t (suc k) (x ∷ xs) h = rw (h 0 ∙ eqb-zero-suc k) (picked-one (λ n. t (suc n)) k xs (λ n. h (suc n) ∙ eqb-suc-suc n k))

-- the positions below a number pass
pub picked-below : {X : Type 0} (t : ℕ → Bool) (b : ℕ) (xs : List X) → ((n : ℕ) → t n ≡ nat_lt n b) → picked t xs ≡ take b xs
picked-below t zero xs h = picked-none t xs (λ n. h n ∙ leb-suc-zero n)
picked-below t (suc b) [] h = refl
picked-below t (suc b) (x ∷ xs) h =
    rw (h 0 ∙ (leb-suc-suc 0 b ∙ leb-zero b)) (ap (λ l. x ∷ l) (picked-below (λ n. t (suc n)) b xs (λ n. h (suc n) ∙ leb-suc-suc (suc n) b)))
