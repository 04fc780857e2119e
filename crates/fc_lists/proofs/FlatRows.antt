-- Rows by bits: the items of all, and where each position has some.
use Rattle.std.proofs.Common.{◌≡◌, ℕ, zero, suc, ◌+◌, ◌-◌, ◌*◌, ◌<◌, ◌≤◌, ◌⊎◌, inl, inr, Bool, true, false, cond, List, [], ◌∷◌, ◌++◌, length, take, get_or, map, refl, sym, ap, ap₂, ◌∙◌, All, ◌&&◌, subst, true≢false, arith, add-zero, zero-add}
use Rattle.std.specs.Bool.{OnTrue}
use Rattle.std.specs.List.{range_with_len}
use Rattle.std.proofs.lemmas.Bool.{cases_lt, and_parts, and_cases}
use Rattle.std.proofs.lemmas.List.{append-nil, take_all, ext_get_or}
use Rattle.std.proofs.lemmas.List.Concat.{flat_map-append}
use Rattle.std.proofs.lemmas.List.FromFn.{length-map-range_with_len, get_or-map-range_with_len, map-range_with_len_more, take-map-range_with_len}
use Rattle.fc_spec.specs.documents.Bits.{has_bit}
use Rattle.fc_spec.proofs.documents.WordBits.{has_bit_past}
use Rattle.fc_lists.specs.Flat.{flat}
use Rattle.fc_lists.specs.Ranks.{bits_below}
use Rattle.fc_lists.specs.Rows.{row_at}
use Rattle.fc_lists.proofs.BitRanks.{bits_below-le, bits_below-next, rank_within}
use Rattle.fc_lists.proofs.Flat.{flat-more}
use Rattle.fc_lists.proofs.Marks.{word_within}

-- ---- the bits of all positions
same_count : (words : List ℕ) (at n : ℕ) → ((k : ℕ) → at ≤ k → has_bit words k ≡ false) → bits_below (at + n) words ≡ bits_below at words
same_count words at zero none = ap (λ m. bits_below m words) (add-zero at)
same_count words at (suc n) none =
    let more : at + suc n ≡ at + n + 1 = omega arith in
    ap (λ m. bits_below m words) more ∙ bits_below-next (at + n) words
    ∙ ap (λ b. bits_below (at + n) words + cond b 1 0) (none (at + n) (omega arith)) ∙ add-zero (bits_below (at + n) words) ∙ same_count words at n none

pub count_all_bits : (words : List ℕ) (len : ℕ) → ((at : ℕ) → len ≤ at → has_bit words at ≡ false) → bits_below len words ≡ bits_below (64 * length words) words
count_all_bits words len none = go (cases_lt (64 * length words) len)
  where
    go : ((64 * length words < len) ⊎ (len ≤ 64 * length words)) → bits_below len words ≡ bits_below (64 * length words) words
    go (inl past) =
        let there : len ≡ 64 * length words + (len - 64 * length words) = omega arith in
        ap (λ n. bits_below n words) there ∙ same_count words (64 * length words) (len - 64 * length words) (λ k behind. has_bit_past words k (omega arith))
    go (inr within) =
        let there : 64 * length words ≡ len + (64 * length words - len) = omega arith in
        sym (ap (λ n. bits_below n words) there ∙ same_count words len (64 * length words - len) none)

-- ---- where as many bits are 1 as there are positions, each is
one_at_most : (b : Bool) → cond b 1 0 ≤ 1
one_at_most true = omega arith
one_at_most false = omega arith

one_of : (b : Bool) → 1 ≤ cond b 1 0 → b ≡ true
one_of true some = refl
one_of false some = absurd (omega arith)

at_most : (words : List ℕ) (at n : ℕ) → bits_below (at + n) words ≤ bits_below at words + n
at_most words at zero = omega (arith, ap (λ m. bits_below m words) (add-zero at))
at_most words at (suc n) =
    let more : at + suc n ≡ at + n + 1 = omega arith in
    let next = ap (λ m. bits_below m words) more ∙ bits_below-next (at + n) words in
    omega (arith, next, one_at_most (has_bit words (at + n)), at_most words at n)

pub all_are_1 : (words : List ℕ) (len at : ℕ) → bits_below len words ≡ len → at < len → (has_bit words at ≡ true) × (bits_below at words ≡ at)
all_are_1 words len at full within =
    let there : at + 1 + (len - (at + 1)) ≡ len = omega arith in
    let rest = at_most words (at + 1) (len - (at + 1)) in
    let all = ap (λ n. bits_below n words) there in
    let next = bits_below-next at words in
    let few = bits_below-le at words in
    let most = one_at_most (has_bit words at) in
    (one_of (has_bit words at) (omega (arith, rest, all, next, few, full)), omega (arith, rest, all, next, few, full, most))

-- ---- the items of the positions below one are those of the lists of their bits
module _ {T : Type 0} (words : List ℕ) (lists : List (List T)) (whole : bits_below (64 * length words) words ≡ length lists) where
  pub flat_front : (at : ℕ) → flat (map (row_at words lists) (range_with_len 0 at)) ≡ flat (take (bits_below at words) lists)
  flat_front zero = refl
  flat_front (suc at) =
      let more : suc at ≡ at + 1 = omega arith in
      ap (λ n. flat (map (row_at words lists) (range_with_len 0 n))) more
      ∙ ap flat (map-range_with_len_more (row_at words lists) 0 at at (zero-add at))
      ∙ flat_map-append (λ row. row) (map (row_at words lists) (range_with_len 0 at)) (row_at words lists at ∷ [])
      ∙ ap₂ (λ a b. a ++ b) (flat_front at) (append-nil (row_at words lists at))
      ∙ go (has_bit words at) refl
      ∙ ap (λ n. flat (take (bits_below n words) lists)) (sym more)
    where
      go : (b : Bool) → has_bit words at ≡ b → flat (take (bits_below at words) lists) ++ row_at words lists at ≡ flat (take (bits_below (at + 1) words) lists)
      go true has =
          let rank = bits_below at words in
          let next = bits_below-next at words ∙ ap (λ b. rank + cond b 1 0) has in
          ap (λ b. flat (take rank lists) ++ cond b (get_or lists rank []) []) has
          ∙ sym (flat-more lists rank (rank_within words at (length lists) has (word_within words at has) whole))
          ∙ ap (λ n. flat (take n lists)) (sym next)
      go false none =
          let rank = bits_below at words in
          let next = bits_below-next at words ∙ ap (λ b. rank + cond b 1 0) none ∙ add-zero rank in
          ap (λ b. flat (take rank lists) ++ cond b (get_or lists rank []) []) none ∙ append-nil (flat (take rank lists))
          ∙ ap (λ n. flat (take n lists)) (sym next)

  pub flat_take : (len at : ℕ) → at ≤ len → flat (take at (map (row_at words lists) (range_with_len 0 len))) ≡ flat (take (bits_below at words) lists)
  flat_take len at within = ap flat (take-map-range_with_len (row_at words lists) 0 len at within) ∙ flat_front at

  pub flat_all : (len : ℕ) → ((at : ℕ) → len ≤ at → has_bit words at ≡ false) → flat (map (row_at words lists) (range_with_len 0 len)) ≡ flat lists
  flat_all len none =
      flat_front len ∙ ap (λ n. flat (take n lists)) (count_all_bits words len none ∙ whole) ∙ ap flat (take_all (length lists) lists (omega arith))

-- where each position has items, the lists are those of the positions
pub full_rows : {T : Type 0} (words : List ℕ) (lists : List (List T)) (len : ℕ) → bits_below len words ≡ len → length lists ≡ len
    → map (row_at words lists) (range_with_len 0 len) ≡ lists
full_rows words lists len full long =
    let size = length-map-range_with_len (row_at words lists) 0 len in
    ext_get_or [] (map (row_at words lists) (range_with_len 0 len)) lists (size ∙ sym long)
    (λ k within.
    let below : k < len = omega arith in
    let is = all_are_1 words len k full below in
    get_or-map-range_with_len (row_at words lists) 0 len k k [] below (omega arith)
    ∙ ap₂ (λ b n. cond b (get_or lists n []) []) is.0 is.1)

-- ---- the row of a position
position_within : (words : List ℕ) (len at : ℕ) → ((k : ℕ) → len ≤ k → has_bit words k ≡ false) → has_bit words at ≡ true → at < len
position_within words len at none has = go (cases_lt at len)
  where
    go : ((at < len) ⊎ (len ≤ at)) → at < len
    go (inl below) = below
    go (inr past) = absurd (true≢false (sym has ∙ none at past))

-- where it is known that each position has items
pub rank_if_filled : {T : Type 0} (filled : Bool) (words : List ℕ) (lists : List (List T)) (len at : ℕ) → ((k : ℕ) → len ≤ k → has_bit words k ≡ false)
    → bits_below (64 * length words) words ≡ length lists → OnTrue filled (length lists ≡ len) → at < len
    → OnTrue filled ((has_bit words at ≡ true) × (bits_below at words ≡ at))
rank_if_filled true words lists len at none whole full within = all_are_1 words len at (count_all_bits words len none ∙ whole ∙ full) within
rank_if_filled false words lists len at none whole full within = tt

module _ {T : Type 0} (words : List ℕ) (lists : List (List T)) (len : ℕ) where
  pub get_or-rows : (at : ℕ) → at < len → get_or (map (row_at words lists) (range_with_len 0 len)) at [] ≡ row_at words lists at
  get_or-rows at within = get_or-map-range_with_len (row_at words lists) 0 len at at [] within (omega arith)

  -- a position whose bit is 1, and one whose bit is 0
  pub row_of_bit : (at : ℕ) → at < len → has_bit words at ≡ true → get_or (map (row_at words lists) (range_with_len 0 len)) at [] ≡ get_or lists (bits_below at words) []
  row_of_bit at within has = get_or-rows at within ∙ ap (λ b. cond b (get_or lists (bits_below at words) []) []) has

  pub row_of_none : (at : ℕ) → at < len → has_bit words at ≡ false → get_or (map (row_at words lists) (range_with_len 0 len)) at [] ≡ []
  row_of_none at within none = get_or-rows at within ∙ ap (λ b. cond b (get_or lists (bits_below at words) []) []) none

  -- a position that is in a set and has items, and one that is not or has none
  pub row_in_both : (docs : List ℕ) (at : ℕ) → ((k : ℕ) → len ≤ k → has_bit words k ≡ false) → All (λ list. 0 < length list) lists
      → bits_below (64 * length words) words ≡ length lists → (has_bit words at && has_bit docs at) ≡ true
      → (at < len) × (has_bit docs at ≡ true) × (0 < length (get_or (map (row_at words lists) (range_with_len 0 len)) at []))
  row_in_both docs at none some whole is =
      let has = and_parts (has_bit words at) (has_bit docs at) is in
      let within = position_within words len at none has.0 in
      let rank = rank_within words at (length lists) has.0 (word_within words at has.0) whole in
      (within, has.1, subst (λ (row : List T). 0 < length row) (sym (row_of_bit at within has.0)) (some (bits_below at words) [] rank))

  pub row_in_one : (docs : List ℕ) (at : ℕ) → at < len → (has_bit words at && has_bit docs at) ≡ false
      → (has_bit docs at ≡ false) ⊎ (get_or (map (row_at words lists) (range_with_len 0 len)) at [] ≡ [])
  row_in_one docs at within none = go (and_cases (has_bit words at) (has_bit docs at) none)
    where
      go : ((has_bit words at ≡ false) ⊎ (has_bit docs at ≡ false)) → (has_bit docs at ≡ false) ⊎ (get_or (map (row_at words lists) (range_with_len 0 len)) at [] ≡ [])
      go (inl empty) = inr (row_of_none at within empty)
      go (inr out) = inl out
