-- Words of the bits that are 1 in these words and in others.
use Rattle.std.proofs.Common.{◌≡◌, ℕ, ◌/◌, ◌%◌, ◌^◌, ◌<◌, ◌≤◌, ◌⊎◌, inl, inr, min, Bool, false, ◌&&◌, ◌==◌, List, length, get_or, map, bit_and, sym, ap, ◌∙◌, arith}
use Rattle.std.specs.Int.{bit_at}
use Rattle.std.specs.List.{range_with_len}
use Rattle.std.proofs.lemmas.Bool.{cases_lt, and_right}
use Rattle.std.proofs.lemmas.List.FromFn.{length-map-range_with_len, get_or-map-range_with_len}
use Rattle.std.proofs.lemmas.Nat.{and_le_l}
use Rattle.fc_spec.specs.documents.Bits.{has_bit}
use Rattle.fc_spec.proofs.documents.WordBits.{and_joins, has_bit_past}
use Rattle.fc_docset.specs.Neighbours.{IsNextFrom, HasNoneFrom}

abbrev word_in_both : List ℕ → List ℕ → ℕ → ℕ
word_in_both words others i = bit_and (get_or words i 0) (get_or others i 0)

abbrev pub in_both : List ℕ → List ℕ → List ℕ
in_both words others = map (word_in_both words others) (range_with_len 0 (min (length words) (length others)))

module _ (words others : List ℕ) where
  pub length-in_both : length (in_both words others) ≡ min (length words) (length others)
  length-in_both = length-map-range_with_len (word_in_both words others) 0 (min (length words) (length others))

  pub get_or-in_both : (i : ℕ) → i < min (length words) (length others) → get_or (in_both words others) i 0 ≡ bit_and (get_or words i 0) (get_or others i 0)
  get_or-in_both i within = get_or-map-range_with_len (word_in_both words others) 0 (min (length words) (length others)) i i 0 within (omega arith)

  pub fits_in_both : (i : ℕ) → get_or words i 0 < 2 ^ 64 → bit_and (get_or words i 0) (get_or others i 0) < 2 ^ 64
  fits_in_both i fits = omega (arith, and_le_l (get_or words i 0) (get_or others i 0))

  pub has_bit-in_both : (k : ℕ) → (has_bit words k && has_bit others k) ≡ has_bit (in_both words others) k
  unfolding has_bit
  has_bit-in_both k = go (cases_lt (k / 64) (length words)) (cases_lt (k / 64) (length others))
    where
      none : min (length words) (length others) ≤ k / 64 → has_bit (in_both words others) k ≡ false
      none past = has_bit_past (in_both words others) k (omega (arith, length-in_both))

      go : ((k / 64 < length words) ⊎ (length words ≤ k / 64)) → ((k / 64 < length others) ⊎ (length others ≤ k / 64)) → (has_bit words k && has_bit others k) ≡ has_bit (in_both words others) k
      go (inl here) (inl there) =
          sym (ap (λ w. bit_at w (k % 64) == 1) (get_or-in_both (k / 64) (omega arith)) ∙ and_joins (get_or words (k / 64) 0) (get_or others (k / 64) 0) (k % 64))
      go (inr past) side = ap (λ b. b && has_bit others k) (has_bit_past words k past) ∙ sym (none (omega arith))
      go (inl here) (inr past) = and_right (has_bit words k) (has_bit others k) (has_bit_past others k past) ∙ sym (none (omega arith))

-- of bits that are the same as others
pub next_of_same : (has is : ℕ → Bool) → ((k : ℕ) → is k ≡ has k) → (from at : ℕ) → IsNextFrom has from at → IsNextFrom is from at
next_of_same has is same from at next = record {
  behind = next.behind;
  member = same at ∙ next.member;
  none_between = λ k low high. same k ∙ next.none_between k low high;
}

pub none_of_same : (has is : ℕ → Bool) → ((k : ℕ) → is k ≡ has k) → (from : ℕ) → HasNoneFrom has from → HasNoneFrom is from
none_of_same has is same from none k low = same k ∙ none k low
