-- The bits of words one word after another, and how many are 1.
use Rattle.std.proofs.Common.{◌≡◌, ℕ, zero, suc, ◌+◌, ◌-◌, ◌*◌, ◌/◌, ◌%◌, ◌^◌, ◌<◌, ◌≤◌, ◌⊎◌, inl, inr, Bool, false, cond, ◌==◌, List, [], ◌∷◌, ◌++◌, length, get_or, replicate, sum_by, count_by, count_ones, refl, sym, ap, ap₂, ◌∙◌, arith, add-zero, length-append}
use Rattle.std.specs.Int.{bit_at}
use Rattle.std.proofs.lemmas.Bool.{cases_lt}
use Rattle.std.proofs.lemmas.List.{get_or_append_left, get_or-append_right, get_or-replicate, length-replicate}
use Rattle.std.proofs.lemmas.List.Sums.{sum_by-cons, sum_by-append}
use Rattle.fc_spec.specs.documents.Bits.{has_bit, first_bits}
use Rattle.fc_lane.proofs.BitLists.{length-first_bits, get_or-first_bits, first_bits_is}
use Rattle.fc_lane.proofs.LowBits.{low_bits, length-low_bits, get_or-low_bits, count_by-low_bits}

-- ---- the first word and the rest
pub has_bit_first : (w : ℕ) (words : List ℕ) (k : ℕ) → k < 64 → has_bit (w ∷ words) k ≡ (bit_at w k == 1)
unfolding has_bit
has_bit_first w words k low =
    let word : k / 64 ≡ 0 = omega arith in
    let bit : k % 64 ≡ k = omega arith in
    ap (λ i. bit_at (get_or (w ∷ words) i 0) (k % 64) == 1) word ∙ ap (λ i. bit_at w i == 1) bit

has_bit_rest : (w : ℕ) (words : List ℕ) (k : ℕ) → 64 ≤ k → has_bit (w ∷ words) k ≡ has_bit words (k - 64)
unfolding has_bit
has_bit_rest w words k high =
    let word : k / 64 ≡ suc ((k - 64) / 64) = omega arith in
    let bit : k % 64 ≡ (k - 64) % 64 = omega arith in
    ap₂ (λ i j. bit_at (get_or (w ∷ words) i 0) j == 1) word bit

pub first_bits-cons : (n w : ℕ) (words : List ℕ) → first_bits (64 + n) (w ∷ words) ≡ low_bits 64 w ++ first_bits n words
first_bits-cons n w words =
    first_bits_is (64 + n) (w ∷ words) (low_bits 64 w ++ first_bits n words)
    (length-append (low_bits 64 w) (first_bits n words) ∙ ap₂ (λ a b. a + b) (length-low_bits 64 w) (length-first_bits n words))
    (λ k within. go k within (cases_lt k 64))
  where
    go : (k : ℕ) → k < 64 + n → ((k < 64) ⊎ (64 ≤ k)) → has_bit (w ∷ words) k ≡ get_or (low_bits 64 w ++ first_bits n words) k false
    go k within (inl low) =
        has_bit_first w words k low ∙ sym (get_or-low_bits 64 w k low)
        ∙ sym (get_or_append_left (low_bits 64 w) (first_bits n words) false k (omega (arith, length-low_bits 64 w)))
    go k within (inr high) =
        has_bit_rest w words k high ∙ sym (get_or-first_bits n words (k - 64) (omega arith))
        ∙ sym (get_or-append_right (low_bits 64 w) (first_bits n words) 64 k false (length-low_bits 64 w) high)

-- all bits of the words
abbrev pub all_bits : List ℕ → List Bool
all_bits words = first_bits (64 * length words) words

pub all_bits-cons : (w : ℕ) (words : List ℕ) → all_bits (w ∷ words) ≡ low_bits 64 w ++ all_bits words
all_bits-cons w words =
    let size : 64 * suc (length words) ≡ 64 + 64 * length words = omega arith in
    ap (λ n. first_bits n (w ∷ words)) size ∙ first_bits-cons (64 * length words) w words

-- ---- how many bits are 1
pub count_by-all_bits : (words : List ℕ) → ((k : ℕ) → get_or words k 0 < 2 ^ 64)
    → sum_by count_ones words ≡ count_by (λ here. here) (all_bits words)
count_by-all_bits [] fit = refl
count_by-all_bits (w ∷ words) fit =
    sum_by-cons count_ones w words
    ∙ ap₂ (λ a b. a + b) (sym (count_by-low_bits 64 w (fit 0))) (count_by-all_bits words (λ k. fit (suc k)))
    ∙ sym (sum_by-append (λ here. cond here 1 0) (low_bits 64 w) (all_bits words))
    ∙ sym (ap (count_by (λ here. here)) (all_bits-cons w words))

-- ---- no bit from a length on
first_bits-more : (len more : ℕ) (words : List ℕ) → ((k : ℕ) → len ≤ k → has_bit words k ≡ false)
    → first_bits (len + more) words ≡ first_bits len words ++ replicate more false
first_bits-more len more words none =
    first_bits_is (len + more) words (first_bits len words ++ replicate more false)
    (length-append (first_bits len words) (replicate more false) ∙ ap₂ (λ a b. a + b) (length-first_bits len words) (length-replicate more false))
    (λ k within. go k within (cases_lt k len))
  where
    go : (k : ℕ) → k < len + more → ((k < len) ⊎ (len ≤ k)) → has_bit words k ≡ get_or (first_bits len words ++ replicate more false) k false
    go k within (inl below) =
        sym (get_or-first_bits len words k below)
        ∙ sym (get_or_append_left (first_bits len words) (replicate more false) false k (omega (arith, length-first_bits len words)))
    go k within (inr past) =
        none k past ∙ sym (get_or-replicate more (k - len) false false (omega arith))
        ∙ sym (get_or-append_right (first_bits len words) (replicate more false) len k false (length-first_bits len words) past)

count_of_none : (n : ℕ) → count_by (λ here. here) (replicate n false) ≡ 0
count_of_none zero = refl
count_of_none (suc n) = count_of_none n

module _ (len : ℕ) (words : List ℕ) (bits : List Bool) (is : first_bits len words ≡ bits) (enough : length words ≡ (len + 63) / 64)
    (none : (k : ℕ) → len ≤ k → has_bit words k ≡ false) where
  pub all_bits_are : all_bits words ≡ bits ++ replicate (64 * length words - len) false
  all_bits_are =
      let size : 64 * length words ≡ len + (64 * length words - len) = omega arith in
      ap (λ n. first_bits n words) size ∙ first_bits-more len (64 * length words - len) words none
      ∙ ap (λ l. l ++ replicate (64 * length words - len) false) is

  pub count_of_all : count_by (λ here. here) (all_bits words) ≡ count_by (λ here. here) bits
  count_of_all =
      ap (count_by (λ here. here)) all_bits_are
      ∙ sum_by-append (λ here. cond here 1 0) bits (replicate (64 * length words - len) false)
      ∙ ap (λ n. count_by (λ here. here) bits + n) (count_of_none (64 * length words - len)) ∙ add-zero (count_by (λ here. here) bits)
