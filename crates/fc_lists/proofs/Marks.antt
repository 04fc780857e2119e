-- The bits of positions are set one after another.
use Rattle.std.proofs.Common.{◌≡◌, ℕ, ◌+◌, ◌/◌, ◌%◌, ◌<◌, ◌≤◌, inl, inr, true, false, ◌||◌, ◌==◌, List, [], ◌∷◌, length, get_or, set, take, replicate, sym, ap, ap₂, ◌∙◌, arith, eq-eqb, ne_eqb, eqb-true, add-one, true≢false}
use Rattle.std.proofs.lemmas.Bool.{cases_eq, cases_lt, cases_Bool}
use Rattle.std.proofs.lemmas.List.{get_or_default, get_or_past}
use Rattle.std.specs.Int.{bit_at}
use Rattle.std.proofs.lemmas.List.Folds.{list_any_more, list_any_at, list_any_none}
use Rattle.std.proofs.lemmas.List.Kept.{AllPairs-from_increasing}
use Rattle.std.specs.List.Sorted.{IsStrictlyIncreasing}
use Rattle.fc_spec.specs.documents.Bits.{has_bit}
use Rattle.fc_spec.proofs.documents.WordBits.{has_bit_of_zeros, has_bit_past, with_bit, has_bit-set_one}
use Rattle.fc_lists.specs.Among.{is_among}

pub same_either : (a b : ℕ) → (a == b) ≡ (b == a)
same_either a b = elim (cases_eq a b) [
  | inl same ↦ eq-eqb a b same ∙ sym (eq-eqb b a (sym same))
  | inr other ↦ ne_eqb a b other ∙ sym (ne_eqb b a (λ same. other (sym same)))
]

-- ---- a number among others
pub among_at : (n : ℕ) (numbers : List ℕ) (k : ℕ) → k < length numbers → get_or numbers k 0 ≡ n → is_among n numbers ≡ true
among_at n numbers k inside same = list_any_at (λ number. n == number) numbers k 0 inside (eq-eqb n (get_or numbers k 0) (sym same))

pub record Place (n : ℕ) (numbers : List ℕ) : Type 0 where
  pub at : ℕ
  pub inside : at < length numbers
  pub is : get_or numbers at 0 ≡ n

pub place_among : (n : ℕ) (numbers : List ℕ) → is_among n numbers ≡ true → Place n numbers
place_among n [] among = cc
place_among n (m ∷ numbers) among = elim (cases_Bool (n == m)) [
  | inl same ↦ record { at = 0; inside = omega arith; is = sym (eqb-true n m same) }
  | inr other ↦
      let later = place_among n numbers (sym (ap (λ b. b || is_among n numbers) other) ∙ among) in
      record { at = later.at + 1; inside = omega (arith, later.inside); is = rw add-one later.is }
]

pub not_among : (n : ℕ) (numbers : List ℕ) → ((k : ℕ) → k < length numbers → get_or numbers k 0 ≡ n → ⊥) → is_among n numbers ≡ false
not_among n numbers other =
    list_any_none (λ number. n == number) numbers
    (λ k d inside. ne_eqb n (get_or numbers k d) (λ same. other k inside (get_or_default numbers k 0 d inside ∙ sym same)))

pub rises : (xs : List ℕ) (i j d : ℕ) → IsStrictlyIncreasing xs → i ≤ j → j < length xs → get_or xs i d ≤ get_or xs j d
rises xs i j d rising order within = elim (cases_eq i j) [
  | inl same ↦ omega (arith, ap (λ k. get_or xs k d) same)
  | inr other ↦ let below = AllPairs-from_increasing xs rising i j d (omega arith) within in omega arith
]

-- ---- the words have the bits of these positions
abbrev pub Marked : List ℕ → List ℕ → Type 0
Marked words positions = (at : ℕ) → has_bit words at ≡ is_among at positions

pub marked_none : (words : List ℕ) (n : ℕ) → words ≡ replicate n 0 → Marked words []
marked_none words n zeros at = ap (λ l. has_bit l at) zeros ∙ has_bit_of_zeros n at

pub marked_more : (words positions : List ℕ) (i at : ℕ) → i < length positions → at ≡ get_or positions i 0 → at / 64 < length words
    → Marked words (take i positions) → Marked (set words (at / 64) (with_bit words at)) (take (i + 1) positions)
marked_more words positions i at inside is within marked k =
    has_bit-set_one words at k within
    ∙ ap₂ (λ a b. a || b) (marked k) (ap (λ n. k == n) is)
    ∙ sym (list_any_more (λ number. k == number) positions i 0 inside)

-- a position with a bit is in one of the words
pub word_within : (words : List ℕ) (at : ℕ) → has_bit words at ≡ true → at / 64 < length words
word_within words at has = elim (cases_lt (at / 64) (length words)) [
  | inl below ↦ below
  | inr past ↦ absurd (true≢false (sym has ∙ has_bit_past words at past))
]

-- words that are the same have the same bits
pub same_bits : (words others : List ℕ) → length others ≤ length words → ((k : ℕ) → k < length words → get_or words k 0 ≡ get_or others k 0)
    → (at : ℕ) → has_bit words at ≡ has_bit others at
unfolding has_bit
same_bits words others few same at = elim (cases_lt (at / 64) (length words)) [
  | inl within ↦ ap (λ w. bit_at w (at % 64) == 1) (same (at / 64) within)
  | inr past ↦ ap (λ w. bit_at w (at % 64) == 1) (get_or_past words (at / 64) 0 past ∙ sym (get_or_past others (at / 64) 0 (omega arith)))
]
