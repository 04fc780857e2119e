-- The bits of the first words, and whether one from a position up to another is 1.
use Rattle.std.proofs.Common.{◌≡◌, ℕ, ◌+◌, ◌/◌, ◌%◌, ◌<◌, ◌≤◌, ◌==◌, Bool, true, false, nat_le, List, take, get_or-take, sym, ap, ◌∙◌, arith, refl}
use Rattle.std.proofs.lemmas.Bool.{leb-true, leb-false}
use Rattle.std.specs.Bool.{OnTrue, OnFalse}
use Rattle.std.specs.Int.{bit_at}
use Rattle.fc_spec.specs.documents.Bits.{has_bit}
use Rattle.fc_docset.specs.Neighbours.{HasNoneFrom, IsNextFrom}

pub has_bit-front : (n : ℕ) (words : List ℕ) (k : ℕ) → k / 64 < n → has_bit (take n words) k ≡ has_bit words k
unfolding has_bit
has_bit-front n words k within = ap (λ word. bit_at word (k % 64) == 1) (get_or-take n words (k / 64) 0 within)

-- one is 1, and none is
abbrev pub HasOne : (ℕ → Bool) → (first last : ℕ) → Type 0
HasOne has first last = (k : ℕ) × (first ≤ k) × (k ≤ last) × (has k ≡ true)

abbrev pub HasNone : (ℕ → Bool) → (first last : ℕ) → Type 0
HasNone has first last = (k : ℕ) → first ≤ k → k ≤ last → has k ≡ false

module _ (words : List ℕ) (first last at : ℕ) (next : IsNextFrom (has_bit (take (last / 64 + 1) words)) first at) where
  pub some_in_front : OnTrue (nat_le at last) (HasOne (has_bit words) first last)
  some_in_front = go (nat_le at last) (leb-true at last)
    where
      go : (b : Bool) → (b ≡ true → at ≤ last) → OnTrue b (HasOne (has_bit words) first last)
      go true low = let e = low refl in (at, next.behind, e, sym (has_bit-front (last / 64 + 1) words at (omega arith)) ∙ next.member)
      go false low = tt

  pub none_in_front : OnFalse (nat_le at last) (HasNone (has_bit words) first last)
  none_in_front = go (nat_le at last) (leb-false at last)
    where
      go : (b : Bool) → (b ≡ false → last < at) → OnFalse b (HasNone (has_bit words) first last)
      go true high = tt
      go false high = λ k low within. let e = high refl in sym (has_bit-front (last / 64 + 1) words k (omega arith)) ∙ next.none_between k low (omega arith)

pub none_at_all : (words : List ℕ) (first last : ℕ) → HasNoneFrom (has_bit (take (last / 64 + 1) words)) first → HasNone (has_bit words) first last
none_at_all words first last none k low within = sym (has_bit-front (last / 64 + 1) words k (omega arith)) ∙ none k low

-- of bits that are the same as those of a set
pub one_of_same : (has is : ℕ → Bool) → ((k : ℕ) → is k ≡ has k) → (first last : ℕ) (b : Bool) → OnTrue b (HasOne has first last) → OnTrue b (HasOne is first last)
one_of_same has is same first last true h = (h.0, h.1, h.2, same h.0 ∙ h.3)
one_of_same has is same first last false h = tt

pub none_of_same : (has is : ℕ → Bool) → ((k : ℕ) → is k ≡ has k) → (first last : ℕ) (b : Bool) → OnFalse b (HasNone has first last) → OnFalse b (HasNone is first last)
none_of_same has is same first last true h = tt
none_of_same has is same first last false h = λ k low within. same k ∙ h k low within
