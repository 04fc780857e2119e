-- The bits of the positions below one, in words that may be more.
use Rattle.std.proofs.Common.{◌≡◌, ℕ, ◌/◌, ◌%◌, ◌<◌, ◌≤◌, ◌⊎◌, inl, inr, false, cond, ◌&&◌, ◌==◌, nat_lt, List, length, take, get_or, set, bit_and, sym, ap, ◌∙◌, arith, lt-ltb, le-ltb, eq-eqb, ne_eqb}
use Rattle.std.proofs.lemmas.Bool.{cases_lt, cases_eq, and_right}
use Rattle.std.proofs.lemmas.List.{length-take-le, get_or-take, get_or_past}
use Rattle.std.specs.Int.{bit_at}
use Rattle.fc_spec.specs.documents.Bits.{has_bit, words_for, first_bits, HasBits}
use Rattle.fc_spec.proofs.documents.WordBits.{has_bit_past, has_bit-set, has_bit-cleared, and_right_true, mask_below}
use Rattle.fc_lane.proofs.BitLists.{length-first_bits, get_or-first_bits}
use Rattle.fc_docset.proofs.FrontWords.{has_bit-front}

module _ (words into : List ℕ) (len : ℕ) (enough : words_for len ≤ length words) (copied : (k : ℕ) → has_bit into k ≡ has_bit (take (words_for len) words) k) where
  front_bit : (k : ℕ) → k < len → has_bit into k ≡ get_or (first_bits len words) k false
  front_bit k below = copied k ∙ has_bit-front (words_for len) words k (omega arith) ∙ sym (get_or-first_bits len words k below)

  past_bits : (k : ℕ) → len ≤ k → get_or (first_bits len words) k false ≡ false
  past_bits k past = get_or_past (first_bits len words) k false (omega (arith, length-first_bits len words))

  no_word : (k : ℕ) → words_for len ≤ k / 64 → has_bit into k ≡ false
  no_word k past = copied k ∙ has_bit_past (take (words_for len) words) k (omega (arith, length-take-le (words_for len) words enough))

  -- the last word is whole
  pub whole_front : len % 64 ≡ 0 → HasBits into (first_bits len words)
  whole_front even k = go (cases_lt k len)
    where
      go : ((k < len) ⊎ (len ≤ k)) → has_bit into k ≡ get_or (first_bits len words) k false
      go (inl below) = front_bit k below
      go (inr past) = no_word k (omega arith) ∙ sym (past_bits k past)

  -- the last word is cut
  module _ (odd : len % 64 ≡ 0 → ⊥) (room : words_for len ≤ length into) where
    last_word : (k : ℕ) → k / 64 ≡ len / 64 → has_bit (set into (len / 64) (bit_and (get_or into (len / 64) 0) (mask_below (len % 64)))) k ≡ (has_bit into k && nat_lt k len)
    last_word k here =
        let front = take (words_for len) into in
        let size = length-take-le (words_for len) into room in
        let word = get_or-take (words_for len) into (len / 64) 0 (omega arith) in
        let test = eq-eqb (k / 64) (len / 64) here in
        let cut = λ (w : ℕ). bit_and w (mask_below (len % 64)) in
        has_bit-set into (len / 64) (cut (get_or into (len / 64) 0)) k (omega arith)
        ∙ ap (λ b. cond b (bit_at (cut (get_or into (len / 64) 0)) (k % 64) == 1) (has_bit into k)) test
        ∙ sym (has_bit-set front (len / 64) (cut (get_or into (len / 64) 0)) k (omega arith)
        ∙ ap (λ b. cond b (bit_at (cut (get_or into (len / 64) 0)) (k % 64) == 1) (has_bit front k)) test)
        ∙ ap (λ w. has_bit (set front (len / 64) (cut w)) k) (sym word)
        ∙ has_bit-cleared front len k size odd
        ∙ ap (λ b. b && nat_lt k len) (has_bit-front (words_for len) into k (omega arith))

    other_word : (k : ℕ) → (k / 64 ≡ len / 64 → ⊥) → has_bit (set into (len / 64) (bit_and (get_or into (len / 64) 0) (mask_below (len % 64)))) k ≡ has_bit into k
    other_word k there =
        let word = bit_and (get_or into (len / 64) 0) (mask_below (len % 64)) in
        has_bit-set into (len / 64) word k (omega arith) ∙ ap (λ b. cond b (bit_at word (k % 64) == 1) (has_bit into k)) (ne_eqb (k / 64) (len / 64) there)

    pub cut_front : HasBits (set into (len / 64) (bit_and (get_or into (len / 64) 0) (mask_below (len % 64)))) (first_bits len words)
    cut_front k = go (cases_eq (k / 64) (len / 64)) (cases_lt k len)
      where
        go : ((k / 64 ≡ len / 64) ⊎ (k / 64 ≡ len / 64 → ⊥)) → ((k < len) ⊎ (len ≤ k))
            → has_bit (set into (len / 64) (bit_and (get_or into (len / 64) 0) (mask_below (len % 64)))) k ≡ get_or (first_bits len words) k false
        go (inl here) (inl below) = last_word k here ∙ and_right_true (has_bit into k) (nat_lt k len) (lt-ltb k len below) ∙ front_bit k below
        go (inl here) (inr past) = last_word k here ∙ and_right (has_bit into k) (nat_lt k len) (le-ltb k len past) ∙ sym (past_bits k past)
        go (inr there) (inl below) = other_word k there ∙ front_bit k below
        go (inr there) (inr past) = other_word k there ∙ no_word k (omega arith) ∙ sym (past_bits k past)
