-- The bits of a number, the lowest first, and how many of them are 1.
use Rattle.std.proofs.Common.{◌≡◌, ℕ, zero, suc, ◌+◌, ◌/◌, ◌%◌, ◌^◌, ◌<◌, Bool, false, cond, ◌==◌, List, [], ◌∷◌, length, get_or, count_by, refl, sym, ap, ap₂, ◌∙◌, arith, mod-lt, zero-lt-suc, pow-suc}
use Rattle.std.specs.Int.{bit_at}
use Rattle.std.specs.Int.Count.{ones, ones_step}
use Rattle.std.proofs.lemmas.Nat.Bits.{bit_at_lowest, bit_at-suc}
use Rattle.std.proofs.lemmas.List.Sums.{sum_by-cons}

-- the k lowest bits
unfoldable pub low_bits : ℕ → ℕ → List Bool
low_bits zero w = []
low_bits (suc k) w = (w % 2 == 1) ∷ low_bits k (w / 2)

pub length-low_bits : (k w : ℕ) → length (low_bits k w) ≡ k
unfolding low_bits
length-low_bits zero w = refl
length-low_bits (suc k) w = ap suc (length-low_bits k (w / 2))

pub get_or-low_bits : (k w i : ℕ) → i < k → get_or (low_bits k w) i false ≡ (bit_at w i == 1)
unfolding low_bits
get_or-low_bits zero w i within = absurd (omega arith)
get_or-low_bits (suc k) w zero within = ap (λ n. n == 1) (sym (bit_at_lowest w))
get_or-low_bits (suc k) w (suc i) within = get_or-low_bits k (w / 2) i (omega arith) ∙ ap (λ n. n == 1) (sym (bit_at-suc w i))

pub bit_cases : (P : ℕ → Type 0) → P 0 → P 1 → (r : ℕ) → r < 2 → P r
bit_cases P p q zero h = p
bit_cases P p q (suc zero) h = q
bit_cases P p q (suc (suc r)) h = absurd (omega arith)

pub count_by-low_bits : (k w : ℕ) → w < 2 ^ k → count_by (λ here. here) (low_bits k w) ≡ ones w
unfolding low_bits ones
count_by-low_bits zero w small = let none : w ≡ 0 = omega arith in sym (ap ones none)
count_by-low_bits (suc k) w small =
    sum_by-cons (λ here. cond here 1 0) (w % 2 == 1) (low_bits k (w / 2))
    ∙ ap₂ (λ a b. a + b) (bit_cases (λ r. cond (r == 1) 1 0 ≡ r) refl refl (w % 2) (mod-lt w (zero-lt-suc 1))) (count_by-low_bits k (w / 2) (omega (arith, pow-suc 2 k)))
    ∙ sym (ones_step w)
