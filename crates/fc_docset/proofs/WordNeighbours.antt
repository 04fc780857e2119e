-- The bits of a word from one on, and up to one.
use Rattle.std.proofs.Common.{◌≡◌, ℕ, suc, ◌+◌, ◌-◌, ◌*◌, ◌/◌, ◌%◌, ◌^◌, ◌<◌, ◌≤◌, ◌⊎◌, inl, inr, true, false, ◌==◌, List, length, get_or, sym, ap, ap₂, ◌∙◌, arith, bit_and, w64, pow-suc}
use Rattle.std.proofs.lemmas.Bool.{false≢true, and_right, cases_lt}
use Rattle.std.proofs.lemmas.Nat.{leading_top, and_le_l}
use Rattle.std.proofs.lemmas.Nat.Bits.{ones_shl, ones_shr, bit_at-zero, bit_at_above, bit_at_mask_inside, bit_at_mask_below, bit_at_ones, bit_at_ones_above, bit_at-trailing_zeros, bit_at_cat_high}
use Rattle.std.specs.Int.{bit_at, trailing_zeros}
use Rattle.std.specs.Int.Count.{count_leading_zeros}
use Rattle.fc_spec.specs.documents.Bits.{has_bit}
use Rattle.fc_spec.proofs.documents.WordBits.{and_joins, and_right_true, has_bit_past}
use Rattle.fc_docset.specs.Neighbours.{IsNextFrom, HasNoneFrom, IsLastUpTo, HasNoneUpTo, is_one}

-- the bits of a word from one on
abbrev pub bits_from : ℕ → ℕ → ℕ
bits_from word from = bit_and word ((2 ^ 64 - 1) * 2 ^ from % 2 ^ 64)

-- and up to one
abbrev pub bits_up_to : ℕ → ℕ → ℕ
bits_up_to word to = bit_and word ((2 ^ 64 - 1) / 2 ^ (63 - to))

past_word : (word i : ℕ) → word < 2 ^ 64 → 64 ≤ i → is_one word i ≡ false
past_word word i fits past = ap (λ b. b == 1) (bit_at_above word 64 i fits past)

kept_bit : (word mask i : ℕ) → is_one mask i ≡ true → is_one (bit_and word mask) i ≡ is_one word i
kept_bit word mask i h = and_joins word mask i ∙ and_right_true (is_one word i) (is_one mask i) h

dropped_bit : (word mask i : ℕ) → is_one mask i ≡ false → is_one (bit_and word mask) i ≡ false
dropped_bit word mask i h = and_joins word mask i ∙ and_right (is_one word i) (is_one mask i) h

from_on : (word from i : ℕ) → from < 64 → from ≤ i → i < 64 → is_one (bits_from word from) i ≡ is_one word i
from_on word from i small low high = kept_bit word _ i (ap (λ m. is_one m i) (ones_shl 64 from (omega arith)) ∙ ap (λ b. b == 1) (bit_at_mask_inside from 64 i low high))

before_from : (word from i : ℕ) → from < 64 → i < from → is_one (bits_from word from) i ≡ false
before_from word from i small low = dropped_bit word _ i (ap (λ m. is_one m i) (ones_shl 64 from (omega arith)) ∙ ap (λ b. b == 1) (bit_at_mask_below from 64 i low))

low_mask : (to : ℕ) → to < 64 → (2 ^ 64 - 1) / 2 ^ (63 - to) ≡ 2 ^ suc to - 1
low_mask to small = let e : 64 - (63 - to) ≡ suc to = omega arith in ones_shr 64 (63 - to) (omega arith) ∙ ap (λ n. 2 ^ n - 1) e

up_to : (word to i : ℕ) → to < 64 → i ≤ to → is_one (bits_up_to word to) i ≡ is_one word i
up_to word to i small low = kept_bit word _ i (ap (λ m. is_one m i) (low_mask to small) ∙ ap (λ b. b == 1) (bit_at_ones (suc to) i (omega arith)))

past_to : (word to i : ℕ) → to < 64 → to < i → is_one (bits_up_to word to) i ≡ false
past_to word to i small high = dropped_bit word _ i (ap (λ m. is_one m i) (low_mask to small) ∙ ap (λ b. b == 1) (bit_at_ones_above (suc to) i (omega arith)))

no_bit : (left i : ℕ) → left ≡ 0 → is_one left i ≡ false
no_bit left i none = ap (λ n. is_one n i) none ∙ ap (λ b. b == 1) (bit_at-zero i)

-- ---- the lowest from a bit on

pub none_from : (word from : ℕ) → word < 2 ^ 64 → from < 64 → bits_from word from ≡ 0 → HasNoneFrom (is_one word) from
none_from word from fits small none k low = go (cases_lt k 64)
  where
    go : ((k < 64) ⊎ (64 ≤ k)) → is_one word k ≡ false
    go (inl high) = sym (from_on word from k small low high) ∙ no_bit (bits_from word from) k none
    go (inr past) = past_word word k fits past

pub lowest_from : (word from : ℕ) → from < 64 → word < 2 ^ 64 → 0 < bits_from word from → IsNextFrom (is_one word) from (trailing_zeros w64 (bits_from word from))
lowest_from word from small fits some =
    let left = bits_from word from in
    let at = trailing_zeros w64 left in
    let is = bit_at-trailing_zeros w64 left some (omega (arith, and_le_l word ((2 ^ 64 - 1) * 2 ^ from % 2 ^ 64))) in
    let here : is_one left at ≡ true = ap (λ b. b == 1) is.1 in
    let behind : from ≤ at = go left at here (cases_lt at from) in
    record {
      behind = behind;
      member = sym (from_on word from at small behind is.0) ∙ here;
      none_between = λ k low high. sym (from_on word from k small low (let w = is.0 in omega arith)) ∙ ap (λ b. b == 1) (is.2 k high);
    }
  where
    go : (left at : ℕ) → is_one (bits_from word from) at ≡ true → ((at < from) ⊎ (from ≤ at)) → from ≤ at
    go left at here (inl low) = absurd (false≢true (sym (before_from word from at small low) ∙ here))
    go left at here (inr high) = high

-- ---- the highest up to a bit

pub none_up_to : (word to : ℕ) → to < 64 → bits_up_to word to ≡ 0 → HasNoneUpTo (is_one word) to
none_up_to word to small none k low = sym (up_to word to k small low) ∙ no_bit (bits_up_to word to) k none

top_bit : (n j : ℕ) → 2 ^ j ≤ n → n < 2 ^ suc j → is_one n j ≡ true
top_bit n j low high =
    let e : n ≡ 1 * 2 ^ j + (n - 2 ^ j) = omega arith in
    let z : j - j ≡ 0 = omega arith in
    ap (λ m. is_one m j) e ∙ ap (λ b. b == 1) (bit_at_cat_high 1 j (n - 2 ^ j) j (omega (arith, pow-suc 2 j)) (omega arith)) ∙ ap (λ i. is_one 1 i) z

pub highest_up_to : (word to : ℕ) → to < 64 → word < 2 ^ 64 → 0 < bits_up_to word to → IsLastUpTo (is_one word) to (63 - count_leading_zeros 64 (bits_up_to word to))
highest_up_to word to small fits some =
    let left = bits_up_to word to in
    let is = leading_top 64 left some (omega (arith, and_le_l word ((2 ^ 64 - 1) / 2 ^ (63 - to)))) in
    let at = is.0 in
    let place : 63 - count_leading_zeros 64 left ≡ at = let e = is.1 in omega arith in
    let here : is_one left at ≡ true = top_bit left at is.2 is.3 in
    let before : at ≤ to = go at here (cases_lt to at) in
    let found : IsLastUpTo (is_one word) to at = record {
      before = before;
      member = sym (up_to word to at small before) ∙ here;
      none_between = λ k low high. sym (up_to word to k small high) ∙ ap (λ b. b == 1) (bit_at_above left (suc at) k is.3 (omega arith));
    } in
    rw place found
  where
    go : (at : ℕ) → is_one (bits_up_to word to) at ≡ true → ((to < at) ⊎ (at ≤ to)) → at ≤ to
    go at here (inl past) = absurd (false≢true (sym (past_to word to at small past) ∙ here))
    go at here (inr within) = within

-- ---- from word to word

-- the bit of a position is one of its word
has_bit_at : (words : List ℕ) (at i : ℕ) → i < 64 → has_bit words (64 * at + i) ≡ is_one (get_or words at 0) i
unfolding has_bit
has_bit_at words at i small =
    let word : (64 * at + i) / 64 ≡ at = omega arith in
    let bit : (64 * at + i) % 64 ≡ i = omega arith in
    ap₂ (λ j k. bit_at (get_or words j 0) k == 1) word bit

has_bit_in : (words : List ℕ) (at k : ℕ) → 64 * at ≤ k → k < 64 * at + 64 → has_bit words k ≡ is_one (get_or words at 0) (k - 64 * at)
has_bit_in words at k low high = let e : k ≡ 64 * at + (k - 64 * at) = omega arith in ap (has_bit words) e ∙ has_bit_at words at (k - 64 * at) (omega arith)

-- the positions from one on have 0 up to a bit of a word
pub record AreNoneTo (words : List ℕ) (from at low : ℕ) : Type 0 where
  pub within : low < 64
  pub behind : from ≤ 64 * at + low
  pub none : (k : ℕ) → from ≤ k → k < 64 * at + low → has_bit words k ≡ false

-- a bit of a word of 64 is below 64
pub below_64 : (word i : ℕ) → word < 2 ^ 64 → is_one word i ≡ true → i < 64
below_64 word i fits here = go (cases_lt i 64)
  where
    go : ((i < 64) ⊎ (64 ≤ i)) → i < 64
    go (inl low) = low
    go (inr past) = absurd (false≢true (sym (past_word word i fits past) ∙ here))

pub next_in_word : (words : List ℕ) (from at low bit : ℕ) → AreNoneTo words from at low → get_or words at 0 < 2 ^ 64 → IsNextFrom (is_one (get_or words at 0)) low bit → IsNextFrom (has_bit words) from (64 * at + bit)
next_in_word words from at low bit none fits is =
    let behind = is.behind in
    let small = below_64 (get_or words at 0) bit fits is.member in
    record {
      behind = omega (arith, none.behind);
      member = has_bit_at words at bit small ∙ is.member;
      none_between = λ k above below. go k above below (cases_lt k (64 * at + low));
    }
  where
    go : (k : ℕ) → from ≤ k → k < 64 * at + bit → ((k < 64 * at + low) ⊎ (64 * at + low ≤ k)) → has_bit words k ≡ false
    go k above below (inl before) = none.none k above before
    go k above below (inr past) =
        let small = below_64 (get_or words at 0) bit fits is.member in
        has_bit_in words at k (omega arith) (omega arith) ∙ is.none_between (k - 64 * at) (omega arith) (omega arith)

pub none_in_word : (words : List ℕ) (from at low : ℕ) → AreNoneTo words from at low → HasNoneFrom (is_one (get_or words at 0)) low → AreNoneTo words from (at + 1) 0
none_in_word words from at low none is = record {
  within = omega arith;
  behind = omega (arith, none.behind, none.within);
  none = λ k above below. go k above below (cases_lt k (64 * at + low));
}
  where
    go : (k : ℕ) → from ≤ k → k < 64 * (at + 1) + 0 → ((k < 64 * at + low) ⊎ (64 * at + low ≤ k)) → has_bit words k ≡ false
    go k above below (inl before) = none.none k above before
    go k above below (inr past) = has_bit_in words at k (omega arith) (omega arith) ∙ is (k - 64 * at) (omega arith)

pub none_in_words : (words : List ℕ) (from at low : ℕ) → AreNoneTo words from at low → length words ≤ at → HasNoneFrom (has_bit words) from
none_in_words words from at low none all k above = go (cases_lt k (64 * at + low))
  where
    go : ((k < 64 * at + low) ⊎ (64 * at + low ≤ k)) → has_bit words k ≡ false
    go (inl before) = none.none k above before
    go (inr past) = has_bit_past words k (omega arith)

-- the positions up to one have 0 behind a bit of the word before a number of words
pub record AreNoneBehind (words : List ℕ) (to count high : ℕ) : Type 0 where
  pub within : high < 64
  pub before : 64 * count + high ≤ to + 64
  pub none : (k : ℕ) → 64 * count + high < k + 64 → k ≤ to → has_bit words k ≡ false

pub last_in_word : (words : List ℕ) (to at high bit : ℕ) → AreNoneBehind words to (at + 1) high → IsLastUpTo (is_one (get_or words at 0)) high bit → IsLastUpTo (has_bit words) to (64 * at + bit)
last_in_word words to at high bit none is =
    let low = is.before in
    let small = none.within in
    record {
      before = omega (arith, none.before);
      member = has_bit_at words at bit (omega arith) ∙ is.member;
      none_between = λ k above below. go k above below (cases_lt (64 * at + high) k);
    }
  where
    go : (k : ℕ) → 64 * at + bit < k → k ≤ to → ((64 * at + high < k) ⊎ (k ≤ 64 * at + high)) → has_bit words k ≡ false
    go k above below (inl past) = none.none k (omega arith) below
    go k above below (inr before) =
        let small = none.within in
        has_bit_in words at k (omega arith) (omega arith) ∙ is.none_between (k - 64 * at) (omega arith) (omega arith)

pub none_in_word_behind : (words : List ℕ) (to at high : ℕ) → AreNoneBehind words to (at + 1) high → HasNoneUpTo (is_one (get_or words at 0)) high → AreNoneBehind words to at 63
none_in_word_behind words to at high none is = record {
  within = omega arith;
  before = omega (arith, none.before);
  none = λ k above below. go k above below (cases_lt (64 * at + high) k);
}
  where
    go : (k : ℕ) → 64 * at + 63 < k + 64 → k ≤ to → ((64 * at + high < k) ⊎ (k ≤ 64 * at + high)) → has_bit words k ≡ false
    go k above below (inl past) = none.none k (omega arith) below
    go k above below (inr before) =
        let small = none.within in
        has_bit_in words at k (omega arith) (omega arith) ∙ is (k - 64 * at) (omega arith)

pub none_behind : (words : List ℕ) (to high : ℕ) → AreNoneBehind words to 0 high → HasNoneUpTo (has_bit words) to
none_behind words to high none k below = none.none k (omega (arith, none.within)) below
