-- Words of the tests of a list's items, bit by bit and one more at a time.
use Rattle.std.proofs.Common.{◌≡◌, ℕ, ◌+◌, ◌-◌, ◌*◌, ◌/◌, ◌%◌, ◌^◌, ◌<◌, ◌≤◌, ◌⊎◌, inl, inr, Bool, true, false, cond, ◌==◌, List, length, map, take, drop, get_or, sym, refl, ap, subst, ◌∙◌, arith, length-drop, not, [], ◌∷◌, ◌++◌, bit_or, pow-suc, mod-eq_of_lt, mul_comm}
use Rattle.std.specs.Int.{bit_at}
use Rattle.std.specs.Simd.Lanes.{chunk, mask_l}
use Rattle.std.proofs.Math.ListN.{get_or-map}
use Rattle.std.proofs.Math.Pow.{pow_mono}
use Rattle.std.proofs.Math.Seq.{take-append-add}
use Rattle.std.specs.Int.Bits.{or_shifted_r}
use Rattle.std.proofs.lemmas.Bool.{cases_lt}
use Rattle.std.proofs.lemmas.List.{length-map, map-append, take_all, drop-map, take-map, get_or_past}
use Rattle.std.proofs.lemmas.Simd.{mask_l-lt, bit_mask_l, get_or-chunk, length-chunk, chunk-drop}
use Rattle.fc_spec.specs.documents.Bits.{has_bit, words_for, HasBits}
use Rattle.fc_spec.proofs.documents.WordBits.{has_bit_past}

-- the bits of a test and of its opposite are all bits
opposite_more : (b : Bool) (m n k : ℕ) → m + n + 1 ≡ k → cond (not b) 1 0 + 2 * m + (cond b 1 0 + 2 * n) + 1 ≡ 2 * k
opposite_more true m n k e = omega arith
opposite_more false m n k e = omega arith

-- two words' tests in one list
mask_of_append : (front rest : List Bool) → mask_l (front ++ rest) ≡ mask_l front + 2 ^ length front * mask_l rest
mask_of_append [] rest = omega arith
mask_of_append (b ∷ front) rest = omega (arith, mask_of_append front rest, ap (λ k. k * mask_l rest) (pow-suc 2 (length front)))

module _ {X : Type 0} (p : X → Bool) where
  opposite_masks : (xs : List X) → mask_l (map (λ x. not (p x)) xs) + mask_l (map p xs) + 1 ≡ 2 ^ length xs
  opposite_masks [] = refl
  opposite_masks (x ∷ xs) = opposite_more (p x) (mask_l (map (λ x. not (p x)) xs)) (mask_l (map p xs)) (2 ^ length xs) (opposite_masks xs) ∙ omega (arith, pow-suc 2 (length xs))

  pub word_of_opposite : (xs : List X) → length xs ≡ 64 → 2 ^ 64 - 1 - mask_l (map (λ x. not (p x)) xs) ≡ mask_l (map p xs)
  word_of_opposite xs size = let all : mask_l (map (λ x. not (p x)) xs) + mask_l (map p xs) + 1 ≡ 2 ^ 64 = opposite_masks xs ∙ ap (λ n. 2 ^ n) size in omega (arith, all)

  -- the tests of neighbours, in two lists and in one
  neighbours : (xs : List X) (at n : ℕ) → at + (n + n) ≤ length xs → map p (chunk at (n + n) xs) ≡ map p (chunk at n xs) ++ map p (chunk (at + n) n xs)
  neighbours xs at n room =
      let front = chunk at n xs in
      let rest = drop (at + n) xs in
      let size : length front ≡ n = length-chunk at n xs (omega arith) in
      ap (map p) (ap (take (n + n)) (chunk-drop at n xs)
      ∙ ap (λ k. take (k + n) (front ++ rest)) (sym size) ∙ take-append-add front rest n)
      ∙ map-append p front (take n rest)

  -- two words of neighbours as one
  pub joined_masks : (xs : List X) (at n : ℕ) → at + (n + n) ≤ length xs → ((m : ℕ) → m < 2 ^ n → m * 2 ^ n < 2 ^ 64)
      → bit_or (mask_l (map p (chunk at n xs))) (mask_l (map p (chunk (at + n) n xs)) * 2 ^ n % 2 ^ 64) ≡ mask_l (map p (chunk at (n + n) xs))
  joined_masks xs at n room small =
      let low = mask_l (map p (chunk at n xs)) in
      let high = mask_l (map p (chunk (at + n) n xs)) in
      let low_size : length (map p (chunk at n xs)) ≡ n = length-map (chunk at n xs) p ∙ length-chunk at n xs (omega arith) in
      let high_size : length (map p (chunk (at + n) n xs)) ≡ n = length-map (chunk (at + n) n xs) p ∙ length-chunk (at + n) n xs (omega arith) in
      let low_fits : low < 2 ^ n = subst (λ k. low < 2 ^ k) low_size (mask_l-lt (map p (chunk at n xs))) in
      let high_fits : high < 2 ^ n = subst (λ k. high < 2 ^ k) high_size (mask_l-lt (map p (chunk (at + n) n xs))) in
      ap (bit_or low) (mod-eq_of_lt (small high high_fits)) ∙ or_shifted_r high n low low_fits
      ∙ sym (ap mask_l (neighbours xs at n room) ∙ mask_of_append (map p (chunk at n xs)) (map p (chunk (at + n) n xs))
      ∙ ap (λ k. low + 2 ^ k * high) low_size ∙ (let e = mul_comm high (2 ^ n) in omega (arith, e)))

  -- a word of fewer than 64 tests has room for one more
  pub room_for_one : (xs : List X) (at : ℕ) → 0 < at → at ≤ length xs → length xs ≤ 64 → 2 * mask_l (map p (drop at xs)) + 2 ≤ 2 ^ 64
  room_for_one xs at more within few =
      let size : length (map p (drop at xs)) ≡ length xs - at = length-map (drop at xs) p ∙ length-drop at xs in
      let below = mask_l-lt (map p (drop at xs)) in
      let short : length (map p (drop at xs)) ≤ 63 = omega arith in
      let half : 2 ^ length (map p (drop at xs)) ≤ 2 ^ 63 = pow_mono short in
      omega (arith, below, half)

  -- fewer than 64 are left
  pub chunk_of_few : (xs : List X) (at : ℕ) → length xs - at < 64 → take (length xs - at) (drop at xs) ≡ chunk at 64 xs
  chunk_of_few xs at few =
      let size = length-drop at xs in
      take_all (length xs - at) (drop at xs) (omega (arith, size)) ∙ sym (take_all 64 (drop at xs) (omega (arith, size)))

  bit_test : (b : Bool) → (cond b 1 0 == 1) ≡ b
  bit_test true = refl
  bit_test false = refl

  -- the bit of a test in its word
  bit_of_mask : (xs : List X) (n k : ℕ) → k < 64 → (bit_at (mask_l (map p (chunk n 64 xs))) k == 1) ≡ get_or (map p xs) (n + k) false
  bit_of_mask xs n k low =
      ap (λ b. b == 1) (bit_mask_l (map p (chunk n 64 xs)) k)
      ∙ bit_test (get_or (map p (chunk n 64 xs)) k false)
      ∙ ap (λ l. get_or l k false) (sym (ap (take 64) (drop-map p n xs) ∙ take-map p 64 (drop n xs)))
      ∙ get_or-chunk n 64 (map p xs) k false low

  -- words that hold the tests, and no other bit
  pub words_of_tests : (xs : List X) (words : List ℕ) → words_for (length xs) ≤ length words
      → ((k : ℕ) → k < length words → get_or words k 0 ≡ mask_l (map p (chunk (64 * k) 64 xs))) → HasBits words (map p xs)
  unfolding has_bit
  words_of_tests xs words enough made k = go (cases_lt (k / 64) (length words))
    where
      go : ((k / 64 < length words) ⊎ (length words ≤ k / 64)) → has_bit words k ≡ get_or (map p xs) k false
      go (inl within) =
          let place : 64 * (k / 64) + k % 64 ≡ k = omega arith in
          ap (λ word. bit_at word (k % 64) == 1) (made (k / 64) within)
          ∙ bit_of_mask xs (64 * (k / 64)) (k % 64) (omega arith) ∙ ap (λ i. get_or (map p xs) i false) place
      go (inr past) = has_bit_past words k past ∙ sym (get_or_past (map p xs) k false (omega (arith, length-map xs p)))

  -- where no item passes, no word has a bit
  pub none_passes : ((x : X) → p x ≡ false) → X → (xs : List X) (k : ℕ) → get_or (map p xs) k false ≡ false
  none_passes none any xs k = ap (get_or (map p xs) k) (sym (none any)) ∙ get_or-map p xs k any ∙ none (get_or xs k any)
