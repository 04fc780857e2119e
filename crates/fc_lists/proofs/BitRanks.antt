-- How many bits below a position are 1.
use Rattle.std.proofs.Common.{Some, None, ◌≡◌, ℕ, zero, suc, ◌+◌, ◌-◌, ◌*◌, ◌/◌, ◌%◌, ◌^◌, ◌<◌, ◌≤◌, ◌⊎◌, inl, inr, min, Bool, true, false, cond, ◌==◌, List, ◌∷◌, ◌++◌, length, get_or, take, map, count_by, count_ones, sum_by, bit_and, refl, sym, ap, ap₂, ◌∙◌, arith, add-zero, zero-add, zero-mul, one-mul}
use Rattle.std.specs.Int.{bit_at}
use Rattle.std.specs.List.{range_with_len}
use Rattle.std.proofs.lemmas.List.{map-append, ext_get_or}
use Rattle.std.proofs.lemmas.List.FromFn.{length-map-range_with_len, get_or-map-range_with_len}
use Rattle.std.proofs.lemmas.List.Sums.{sum_by-append, sum_by_more, count_by-le-length}
use Rattle.std.proofs.lemmas.Nat.Bits.{bit_at_and, bit_at_ones, bit_at-lt, and_pow}
use Rattle.std.proofs.lemmas.Nat.{and_le_r, pow_pos}
use Rattle.fc_spec.specs.documents.Bits.{has_bit, first_bits}
use Rattle.fc_spec.proofs.documents.WordBits.{one_shl}
use Rattle.fc_lane.proofs.BitLists.{length-first_bits}
use Rattle.fc_lane.proofs.LowBits.{low_bits, length-low_bits, get_or-low_bits, count_by-low_bits}
use Rattle.fc_lists.specs.Ranks.{bits_below}

pub range_with_len-append : (a n m : ℕ) → range_with_len a (n + m) ≡ range_with_len a n ++ range_with_len (a + n) m
range_with_len-append a zero m = ap₂ range_with_len (sym (add-zero a)) (zero-add m)
range_with_len-append a (suc n) m =
    let size : suc n + m ≡ suc (n + m) = omega arith in
    let start : a + 1 + n ≡ a + suc n = omega arith in
    ap (range_with_len a) size ∙ ap (λ l. a ∷ l) (range_with_len-append (a + 1) n m ∙ ap (λ b. range_with_len (a + 1) n ++ range_with_len b m) start)

-- ---- the bits from a position on
bits_split : (n m : ℕ) (words : List ℕ) → bits_below (n + m) words ≡ bits_below n words + count_by (λ here. here) (map (has_bit words) (range_with_len n m))
bits_split n m words =
    ap (λ l. count_by (λ here. here) (map (has_bit words) l)) (range_with_len-append 0 n m ∙ ap (λ a. range_with_len 0 n ++ range_with_len a m) (zero-add n))
    ∙ ap (count_by (λ here. here)) (map-append (has_bit words) (range_with_len 0 n) (range_with_len n m))
    ∙ sum_by-append (λ here. cond here 1 0) (first_bits n words) (map (has_bit words) (range_with_len n m))

pub bits_below-next : (at : ℕ) (words : List ℕ) → bits_below (at + 1) words ≡ bits_below at words + cond (has_bit words at) 1 0
bits_below-next at words = bits_split at 1 words ∙ ap (λ n. bits_below at words + n) (zero-add (cond (has_bit words at) 1 0))

-- ---- those of one word
word_bits : (words : List ℕ) (i j : ℕ) → j ≤ 64 → map (has_bit words) (range_with_len (64 * i) j) ≡ low_bits j (get_or words i 0)
unfolding has_bit
word_bits words i j small =
    let w = get_or words i 0 in
    ext_get_or false (map (has_bit words) (range_with_len (64 * i) j)) (low_bits j w)
    (length-map-range_with_len (has_bit words) (64 * i) j ∙ sym (length-low_bits j w))
    (λ k within.
    let below : k < j = omega (arith, length-map-range_with_len (has_bit words) (64 * i) j) in
    let word : (64 * i + k) / 64 ≡ i = omega arith in
    let bit : (64 * i + k) % 64 ≡ k = omega arith in
    get_or-map-range_with_len (has_bit words) (64 * i) j k (64 * i + k) false below refl
    ∙ ap₂ (λ a b. bit_at (get_or words a 0) b == 1) word bit
    ∙ sym (get_or-low_bits j w k below))

pub bits_below-in_word : (words : List ℕ) (i j : ℕ) → j ≤ 64 → bits_below (64 * i + j) words ≡ bits_below (64 * i) words + count_by (λ here. here) (low_bits j (get_or words i 0))
bits_below-in_word words i j small =
    bits_split (64 * i) j words ∙ ap (λ l. bits_below (64 * i) words + count_by (λ here. here) l) (word_bits words i j small)

-- ---- running counts
-- those up to the next word are those of one word more
pub bits_below-word : (words : List ℕ) (k : ℕ) → get_or words k 0 < 2 ^ 64 → bits_below (64 * (k + 1)) words ≡ bits_below (64 * k) words + count_ones (get_or words k 0)
bits_below-word words k fits =
    let size : 64 * (k + 1) ≡ 64 * k + 64 = omega arith in
    ap (λ n. bits_below n words) size ∙ bits_below-in_word words k 64 (omega arith)
    ∙ ap (λ n. bits_below (64 * k) words + n) (count_by-low_bits 64 (get_or words k 0) fits)

pub bits_below-words : (words : List ℕ) (k : ℕ) → ((i : ℕ) → get_or words i 0 < 2 ^ 64) → k ≤ length words → bits_below (64 * k) words ≡ sum_by count_ones (take k words)
bits_below-words words zero fit within = refl
bits_below-words words (suc k) fit within =
    let more : suc k ≡ k + 1 = omega arith in
    let size : 64 * suc k ≡ 64 * k + 64 = omega arith in
    ap (λ n. bits_below n words) size ∙ bits_below-in_word words k 64 (omega arith)
    ∙ ap₂ (λ a b. a + b) (bits_below-words words k fit (omega arith)) (count_by-low_bits 64 (get_or words k 0) (fit k))
    ∙ sym (ap (λ n. sum_by count_ones (take n words)) more ∙ sum_by_more count_ones words k 0 (omega arith))

-- ---- the low bits of a word
masked_bits : (j w : ℕ) → low_bits j w ≡ low_bits j (bit_and w (2 ^ j - 1))
masked_bits j w =
    let m = 2 ^ j - 1 in
    ext_get_or false (low_bits j w) (low_bits j (bit_and w m)) (length-low_bits j w ∙ sym (length-low_bits j (bit_and w m)))
    (λ k within.
    let below : k < j = omega (arith, length-low_bits j w) in
    let one : min (bit_at w k) (bit_at m k) ≡ bit_at w k = ap (min (bit_at w k)) (bit_at_ones j k below) ∙ omega (arith, bit_at-lt w k) in
    get_or-low_bits j w k below ∙ ap (λ b. b == 1) (sym (bit_at_and w m k ∙ one)) ∙ sym (get_or-low_bits j (bit_and w m) k below))

masked_lt : (j w : ℕ) → bit_and w (2 ^ j - 1) < 2 ^ j
masked_lt j w = omega (arith, and_le_r w (2 ^ j - 1), pow_pos j)

pub low_count : (j w : ℕ) → count_by (λ here. here) (low_bits j w) ≡ count_ones (bit_and w (2 ^ j - 1))
low_count j w = ap (count_by (λ here. here)) (masked_bits j w) ∙ count_by-low_bits j (bit_and w (2 ^ j - 1)) (masked_lt j w)

pub bits_below-le : (at : ℕ) (words : List ℕ) → bits_below at words ≤ at
bits_below-le at words = omega (arith, count_by-le-length (λ here. here) (first_bits at words), length-first_bits at words)

-- ---- the bit of a position, and those below it in its word
abbrev bit_of : ℕ → ℕ
bit_of at = 1 * 2 ^ (at % 64) % 2 ^ 64

bit_of_is : (at : ℕ) → bit_of at ≡ 2 ^ (at % 64)
bit_of_is at = one_shl (at % 64) (omega arith)

bit_cases : (b p : ℕ) → b < 2 → 0 < p → ((b ≡ 0) × (b * p ≡ 0)) ⊎ ((b ≡ 1) × (b * p ≡ p))
bit_cases zero p small some = inl (refl, zero-mul p)
bit_cases (suc zero) p small some = inr (refl, one-mul p)
bit_cases (suc (suc b)) p small some = absurd (omega arith)

pub bit_is_0 : (words : List ℕ) (at : ℕ) → bit_and (get_or words (at / 64) 0) (bit_of at) ≡ 0 → has_bit words at ≡ false
unfolding has_bit
bit_is_0 words at none =
    let w = get_or words (at / 64) 0 in
    let j = at % 64 in
    let product : bit_at w j * 2 ^ j ≡ 0 = sym (ap (bit_and w) (bit_of_is at) ∙ and_pow w j) ∙ none in
    elim (bit_cases (bit_at w j) (2 ^ j) (bit_at-lt w j) (pow_pos j)) [
      | inl zero_bit ↦ ap (λ b. b == 1) zero_bit.0
      | inr one_bit ↦ absurd (omega (arith, one_bit.1, product, pow_pos j))
    ]

pub bit_is_1 : (words : List ℕ) (at : ℕ) → (bit_and (get_or words (at / 64) 0) (bit_of at) ≡ 0 → ⊥) → has_bit words at ≡ true
unfolding has_bit
bit_is_1 words at some =
    let w = get_or words (at / 64) 0 in
    let j = at % 64 in
    elim (bit_cases (bit_at w j) (2 ^ j) (bit_at-lt w j) (pow_pos j)) [
      | inl zero_bit ↦ absurd (some (ap (bit_and w) (bit_of_is at) ∙ and_pow w j ∙ zero_bit.1))
      | inr one_bit ↦ ap (λ b. b == 1) one_bit.0
    ]

pub rank_is : (words : List ℕ) (at before : ℕ) → before ≡ bits_below (64 * (at / 64)) words
    → before + count_ones (bit_and (get_or words (at / 64) 0) (bit_of at - 1)) ≡ bits_below at words
rank_is words at before counted =
    let w = get_or words (at / 64) 0 in
    let here : 64 * (at / 64) + at % 64 ≡ at = omega arith in
    ap₂ (λ a b. a + count_ones (bit_and w (b - 1))) counted (bit_of_is at)
    ∙ ap (λ n. bits_below (64 * (at / 64)) words + n) (sym (low_count (at % 64) w))
    ∙ sym (bits_below-in_word words (at / 64) (at % 64) (omega arith)) ∙ ap (λ n. bits_below n words) here

pub bits_below_mono : (words : List ℕ) (low high : ℕ) → low ≤ high → bits_below low words ≤ bits_below high words
bits_below_mono words low high order =
    let there : low + (high - low) ≡ high = omega arith in
    omega (arith, sym (ap (λ n. bits_below n words) there) ∙ bits_split low (high - low) words)

-- there is a rank for each bit
pub rank_within : (words : List ℕ) (at count : ℕ) → has_bit words at ≡ true → at / 64 < length words → bits_below (64 * length words) words ≡ count → bits_below at words < count
rank_within words at count has inside whole =
    let next = bits_below-next at words ∙ ap (λ b. bits_below at words + cond b 1 0) has in
    omega (arith, next, whole, bits_below_mono words (at + 1) (64 * length words) (omega arith))

pub some_rank : (b : Bool) (n r : ℕ) → Some r ≡ cond b (Some n) None → (b ≡ true) × (r ≡ n)
some_rank true n r is = (refl, (cc))
some_rank false n r is = cc

pub no_rank : (b : Bool) (n : ℕ) → None ≡ cond b (Some n) None → b ≡ false
no_rank true n is = cc
no_rank false n is = refl
