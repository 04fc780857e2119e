-- At which positions the bits of words are 1.
use Rattle.std.proofs.Common.{◌≡◌, ℕ, zero, suc, ◌+◌, ◌-◌, ◌*◌, ◌/◌, ◌%◌, ◌^◌, ◌<◌, ◌≤◌, min, Bool, true, false, ◌==◌, List, [], ◌∷◌, ◌++◌, length, replicate, refl, sym, ap, ap₂, ◌∙◌, arith, bit_and, mod-lt, zero-lt-suc, pow-suc, add-zero}
use Rattle.std.specs.Int.Bits.{and_step, and_self}
use Rattle.std.specs.Int.Count.{count_trailing_zeros, under}
use Rattle.std.proofs.lemmas.List.{append-nil}
use Rattle.fc_spec.specs.documents.Bits.{has_bit, first_bits}
use Rattle.fc_lane.proofs.LowBits.{low_bits, length-low_bits, bit_cases}
use Rattle.fc_lane.proofs.WholeWords.{all_bits, all_bits-cons, all_bits_are}
use Rattle.fc_docset.specs.Positions.{positions_from}

-- ---- in one word
pub positions_of_zero : (k from : ℕ) → positions_from from (low_bits k 0) ≡ []
unfolding low_bits
positions_of_zero zero from = refl
positions_of_zero (suc k) from = positions_of_zero k (from + 1)

-- the positions of a number by its lowest bit and its half
turn : ℕ → ℕ → ℕ → ℕ → List ℕ
turn k from lowest half = positions_from from ((lowest == 1) ∷ low_bits k half)

Cleared : ℕ → ℕ → ℕ → Type 0
Cleared k from w =
    turn k from (w % 2) (w / 2)
    ≡ (from + under (w % 2) (count_trailing_zeros k (w / 2))) ∷ turn k from (bit_and w (w - 1) % 2) (bit_and w (w - 1) / 2)

-- `w & (w - 1)` lacks the lowest 1
pub positions_cleared : (k from w : ℕ) → 0 < w → w < 2 ^ k
    → positions_from from (low_bits k w) ≡ (from + count_trailing_zeros k w) ∷ positions_from from (low_bits k (bit_and w (w - 1)))
unfolding low_bits count_trailing_zeros turn Cleared
positions_cleared zero from w some small = let no : ⊥ = omega arith in absurd no
positions_cleared (suc k) from w some small =
    bit_cases (λ r. w % 2 ≡ r → Cleared k from w)
    (even (λ below. positions_cleared k (from + 1) (w / 2) below (omega (arith, pow-suc 2 k)))) odd (w % 2) (mod-lt w (zero-lt-suc 1)) refl
  where
    odd : w % 2 ≡ 1 → Cleared k from w
    odd e =
        let y = bit_and w (w - 1) in
        let half : (w - 1) / 2 ≡ w / 2 = omega arith in
        let low : min (w % 2) ((w - 1) % 2) ≡ 0 = omega arith in
        let is : y ≡ w / 2 * 2 + 0 = and_step w (w - 1) ∙ ap₂ (λ u v. u * 2 + v) (ap (bit_and (w / 2)) half ∙ and_self (w / 2)) low in
        let p : y % 2 ≡ 0 = omega arith in
        let q : y / 2 ≡ w / 2 = omega arith in
        ap (λ r. turn k from r (w / 2)) e
        ∙ ap₂ (λ u v. u ∷ v) (sym (ap (λ r. from + under r (count_trailing_zeros k (w / 2))) e ∙ add-zero from)) (sym (ap₂ (turn k from) p q))

    even : (0 < w / 2 → positions_from (from + 1) (low_bits k (w / 2))
        ≡ (from + 1 + count_trailing_zeros k (w / 2)) ∷ positions_from (from + 1) (low_bits k (bit_and (w / 2) (w / 2 - 1)))) → w % 2 ≡ 0 → Cleared k from w
    even below e =
        let y = bit_and w (w - 1) in
        let half : (w - 1) / 2 ≡ w / 2 - 1 = omega arith in
        let low : min (w % 2) ((w - 1) % 2) ≡ 0 = omega arith in
        let z = bit_and (w / 2) (w / 2 - 1) in
        let is : y ≡ z * 2 + 0 = and_step w (w - 1) ∙ ap₂ (λ u v. u * 2 + v) (ap (bit_and (w / 2)) half) low in
        let p : y % 2 ≡ 0 = omega arith in
        let q : y / 2 ≡ z = omega arith in
        let t = count_trailing_zeros k (w / 2) in
        let place : from + 1 + t ≡ from + suc t = omega arith in
        ap (λ r. turn k from r (w / 2)) e ∙ below (omega arith)
        ∙ ap₂ (λ u v. u ∷ v) (place ∙ sym (ap (λ r. from + under r t) e)) (sym (ap₂ (turn k from) p q))

-- ---- in one word after another
positions_from-append : (from : ℕ) (bits others : List Bool) → positions_from from (bits ++ others) ≡ positions_from from bits ++ positions_from (from + length bits) others
positions_from-append from [] others = ap (λ n. positions_from n others) (sym (add-zero from))
positions_from-append from (true ∷ bits) others =
    let next : from + 1 + length bits ≡ from + suc (length bits) = omega arith in
    ap (λ l. from ∷ l) (positions_from-append (from + 1) bits others ∙ ap (λ n. positions_from (from + 1) bits ++ positions_from n others) next)
positions_from-append from (false ∷ bits) others =
    let next : from + 1 + length bits ≡ from + suc (length bits) = omega arith in
    positions_from-append (from + 1) bits others ∙ ap (λ n. positions_from (from + 1) bits ++ positions_from n others) next

positions_of_words : (from w : ℕ) (words : List ℕ)
    → positions_from from (all_bits (w ∷ words)) ≡ positions_from from (low_bits 64 w) ++ positions_from (from + 64) (all_bits words)
positions_of_words from w words =
    ap (positions_from from) (all_bits-cons w words) ∙ positions_from-append from (low_bits 64 w) (all_bits words)
    ∙ ap (λ n. positions_from from (low_bits 64 w) ++ positions_from (from + n) (all_bits words)) (length-low_bits 64 w)

-- the first position, where the first word has one
pub next_position : (from w : ℕ) (words : List ℕ) → 0 < w → w < 2 ^ 64
    → positions_from from (all_bits (w ∷ words)) ≡ (from + count_trailing_zeros 64 w) ∷ positions_from from (all_bits (bit_and w (w - 1) ∷ words))
next_position from w words some small =
    positions_of_words from w words
    ∙ ap (λ l. l ++ positions_from (from + 64) (all_bits words)) (positions_cleared 64 from w some small)
    ∙ ap (λ l. (from + count_trailing_zeros 64 w) ∷ l) (sym (positions_of_words from (bit_and w (w - 1)) words))

-- a word of 0s has none
pub positions_skip : (from : ℕ) (words : List ℕ) → positions_from from (all_bits (0 ∷ words)) ≡ positions_from (from + 64) (all_bits words)
positions_skip from words =
    positions_of_words from 0 words ∙ ap (λ l. l ++ positions_from (from + 64) (all_bits words)) (positions_of_zero 64 from)

-- ---- where no bit is 1 from a length on
positions_of_none : (n from : ℕ) → positions_from from (replicate n false) ≡ []
positions_of_none zero from = refl
positions_of_none (suc n) from = positions_of_none n (from + 1)

module _ (len : ℕ) (words : List ℕ) (bits : List Bool) (is : first_bits len words ≡ bits) (enough : length words ≡ (len + 63) / 64)
    (none : (k : ℕ) → len ≤ k → has_bit words k ≡ false) where
  pub positions_of_all : positions_from 0 (all_bits words) ≡ positions_from 0 bits
  positions_of_all =
      ap (positions_from 0) (all_bits_are len words bits is enough none)
      ∙ positions_from-append 0 bits (replicate (64 * length words - len) false)
      ∙ ap (λ l. positions_from 0 bits ++ l) (positions_of_none (64 * length words - len) (0 + length bits)) ∙ append-nil (positions_from 0 bits)
