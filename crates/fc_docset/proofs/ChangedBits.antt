-- The bits of words after one is cleared, or a run of them is set.
use Rattle.std.proofs.Common.{◌≡◌, ℕ, ◌+◌, ◌-◌, ◌*◌, ◌/◌, ◌%◌, ◌^◌, ◌<◌, ◌≤◌, ◌⊎◌, inl, inr, Bool, true, false, cond, not, ◌&&◌, ◌||◌, ◌==◌, nat_le, nat_lt, List, length, Option, None, Some, MatchOption, get_or, set, refl, sym, ap, ap₂, ◌∙◌, arith, bit_and, bit_or, w64, mod-eq_of_lt, eq-eqb, ne_eqb, mul_comm}
use Rattle.std.proofs.Math.Nat.{mul-sub}
use Rattle.std.proofs.lemmas.Bool.{cases_eq, cases_lt, and_right, lt-ltb, le-ltb, le-leb, lt-leb, and_from}
use Rattle.std.proofs.lemmas.List.{get_or-set_same, get_or-set_other, get_or_past, length-set}
use Rattle.std.proofs.lemmas.Nat.{pow-add, pow_pos, pow_below}
use Rattle.std.proofs.lemmas.Nat.Bits.{bit_at_clear_same, bit_at_clear_other, bit_at_mask_inside, bit_at_mask_below, bit_at_mask_above, ones_shr}
use Rattle.std.specs.Int.{bit_at, bit_not}
use Rattle.fc_spec.specs.documents.Bits.{has_bit, first_bits}
use Rattle.fc_spec.proofs.documents.WordBits.{has_bit-set, or_joins, and_right_true, or_right_false}
use Rattle.fc_docset.specs.Neighbours.{IsNextFrom, HasNoneFrom, IsLastUpTo, HasNoneUpTo, is_one}
use Rattle.fc_lane.proofs.BitLists.{length_of, get_or-first_bits, first_bits_is}

-- in the written word, and in the others
written_here : (words : List ℕ) (i w k : ℕ) → i < length words → k / 64 ≡ i → has_bit (set words i w) k ≡ is_one w (k % 64)
written_here words i w k within same = has_bit-set words i w k within ∙ ap (λ t. cond t (is_one w (k % 64)) (has_bit words k)) (eq-eqb (k / 64) i same)

written_there : (words : List ℕ) (i w k : ℕ) → i < length words → (k / 64 ≡ i → ⊥) → has_bit (set words i w) k ≡ has_bit words k
written_there words i w k within other = has_bit-set words i w k within ∙ ap (λ t. cond t (is_one w (k % 64)) (has_bit words k)) (ne_eqb (k / 64) i other)

word_of : (words : List ℕ) (i k : ℕ) → k / 64 ≡ i → is_one (get_or words i 0) (k % 64) ≡ has_bit words k
unfolding has_bit
word_of words i k same = ap (λ j. is_one (get_or words j 0) (k % 64)) (sym same)

-- ---- a bit is cleared

-- the word of a position, without its bit
abbrev pub without_bit : List ℕ → ℕ → ℕ
without_bit words at = bit_and (get_or words (at / 64) 0) (bit_not w64 (1 * 2 ^ (at % 64) % 2 ^ 64))

pub has_bit-clear_one : (words : List ℕ) (at k : ℕ) → at / 64 < length words
    → has_bit (set words (at / 64) (without_bit words at)) k ≡ (has_bit words k && not (k == at))
has_bit-clear_one words at k within = word (cases_eq (k / 64) (at / 64))
  where
    small : at % 64 < 64
    small = omega arith

    low : k % 64 < 64
    low = omega arith

    kept : (k ≡ at → ⊥) → not (k == at) ≡ true
    kept other = ap not (ne_eqb k at other)

    bit : k / 64 ≡ at / 64 → ((k % 64 ≡ at % 64) ⊎ (k % 64 ≡ at % 64 → ⊥)) → is_one (without_bit words at) (k % 64) ≡ (has_bit words k && not (k == at))
    bit same (inl here) =
        ap (λ b. b == 1) (ap (bit_at (without_bit words at)) here ∙ bit_at_clear_same w64 (get_or words (at / 64) 0) (at % 64) small)
        ∙ sym (and_right (has_bit words k) (not (k == at)) (ap not (eq-eqb k at (omega arith))))
    bit same (inr other) =
        ap (λ b. b == 1) (bit_at_clear_other w64 (get_or words (at / 64) 0) (at % 64) small (k % 64) low other)
        ∙ word_of words (at / 64) k same
        ∙ sym (and_right_true (has_bit words k) (not (k == at)) (kept (λ e. other (ap (λ n. n % 64) e))))

    word : ((k / 64 ≡ at / 64) ⊎ (k / 64 ≡ at / 64 → ⊥)) → has_bit (set words (at / 64) (without_bit words at)) k ≡ (has_bit words k && not (k == at))
    word (inl same) = written_here words (at / 64) (without_bit words at) k within same ∙ bit same (cases_eq (k % 64) (at % 64))
    word (inr other) =
        written_there words (at / 64) (without_bit words at) k within other
        ∙ sym (and_right_true (has_bit words k) (not (k == at)) (kept (λ e. other (ap (λ n. n / 64) e))))

-- ---- a run of bits is set

-- a run of ones in a word
abbrev pub run : (low count : ℕ) → ℕ
run low count = (2 ^ 64 - 1) / 2 ^ (64 - count) * 2 ^ low % 2 ^ 64

below_word : (low top : ℕ) → top ≤ 64 → 2 ^ top - 2 ^ low < 2 ^ 64
below_word low top most = go (cases_lt top 64)
  where
    go : ((top < 64) ⊎ (64 ≤ top)) → 2 ^ top - 2 ^ low < 2 ^ 64
    go (inl less) = let h : 2 ^ top < 2 ^ 64 = pow_below top 64 less in omega arith
    go (inr more) = let e : 2 ^ top ≡ 2 ^ 64 = ap (λ n. 2 ^ n) (let same : top ≡ 64 = omega arith in same) in omega (arith, pow_pos low, e)

run_is : (low count : ℕ) → low + count ≤ 64 → run low count ≡ 2 ^ (low + count) - 2 ^ low
run_is low count most =
    let e : 64 - (64 - count) ≡ count = omega arith in
    let ones : (2 ^ 64 - 1) / 2 ^ (64 - count) ≡ 2 ^ count - 1 = ones_shr 64 (64 - count) (omega arith) ∙ ap (λ n. 2 ^ n - 1) e in
    let one : 2 ^ low * 1 ≡ 2 ^ low = omega arith in
    ap (λ n. n * 2 ^ low % 2 ^ 64) ones
    ∙ ap (λ n. n % 2 ^ 64) (mul_comm (2 ^ count - 1) (2 ^ low) ∙ mul-sub (2 ^ low) (2 ^ count) 1 ∙ ap₂ (λ a b. a - b) (sym (pow-add 2 low count)) one)
    ∙ mod-eq_of_lt (below_word low (low + count) most)

run_bit : (low count i : ℕ) → low + count ≤ 64 → is_one (run low count) i ≡ (nat_le low i && nat_lt i (low + count))
run_bit low count i most = ap (λ m. is_one m i) (run_is low count most) ∙ go (cases_lt i low) (cases_lt i (low + count))
  where
    go : ((i < low) ⊎ (low ≤ i)) → ((i < low + count) ⊎ (low + count ≤ i)) → is_one (2 ^ (low + count) - 2 ^ low) i ≡ (nat_le low i && nat_lt i (low + count))
    go (inl less) _ = ap (λ b. b == 1) (bit_at_mask_below low (low + count) i less) ∙ sym (ap (λ t. t && nat_lt i (low + count)) (lt-leb low i less))
    go (inr from) (inl less) = ap (λ b. b == 1) (bit_at_mask_inside low (low + count) i from less) ∙ sym (and_from (nat_le low i) (nat_lt i (low + count)) (le-leb low i from) (lt-ltb i (low + count) less))
    go (inr from) (inr past) = ap (λ b. b == 1) (bit_at_mask_above low (low + count) i past) ∙ sym (and_right (nat_le low i) (nat_lt i (low + count)) (le-ltb i (low + count) past))

-- the word of a position, with a run of bits from there on
abbrev pub with_run : List ℕ → (at count : ℕ) → ℕ
with_run words at count = bit_or (get_or words (at / 64) 0) (run (at % 64) count)

in_run : (at count k : ℕ) → at % 64 + count ≤ 64 → k / 64 ≡ at / 64 → (nat_le (at % 64) (k % 64) && nat_lt (k % 64) (at % 64 + count)) ≡ (nat_le at k && nat_lt k (at + count))
in_run at count k most same = go (cases_lt k at) (cases_lt k (at + count))
  where
    go : ((k < at) ⊎ (at ≤ k)) → ((k < at + count) ⊎ (at + count ≤ k)) → (nat_le (at % 64) (k % 64) && nat_lt (k % 64) (at % 64 + count)) ≡ (nat_le at k && nat_lt k (at + count))
    go (inl less) _ = ap₂ (λ s t. s && t) (lt-leb (at % 64) (k % 64) (omega arith)) refl ∙ sym (ap (λ t. t && nat_lt k (at + count)) (lt-leb at k less))
    go (inr from) (inl less) =
        and_from _ _ (le-leb (at % 64) (k % 64) (omega arith)) (lt-ltb (k % 64) (at % 64 + count) (omega arith)) ∙ sym (and_from (nat_le at k) (nat_lt k (at + count)) (le-leb at k from) (lt-ltb k (at + count) less))
    go (inr from) (inr past) = and_right _ (nat_lt (k % 64) (at % 64 + count)) (le-ltb (k % 64) (at % 64 + count) (omega arith)) ∙ sym (and_right (nat_le at k) (nat_lt k (at + count)) (le-ltb k (at + count) past))

out_of_run : (at count k : ℕ) → at % 64 + count ≤ 64 → (k / 64 ≡ at / 64 → ⊥) → (nat_le at k && nat_lt k (at + count)) ≡ false
out_of_run at count k most other = go (cases_lt k at) (cases_lt k (at + count))
  where
    go : ((k < at) ⊎ (at ≤ k)) → ((k < at + count) ⊎ (at + count ≤ k)) → (nat_le at k && nat_lt k (at + count)) ≡ false
    go (inl less) _ = ap (λ t. t && nat_lt k (at + count)) (lt-leb at k less)
    go (inr from) (inl less) = absurd (other (omega arith))
    go (inr from) (inr past) = and_right (nat_le at k) (nat_lt k (at + count)) (le-ltb k (at + count) past)

pub has_bit-set_run : (words : List ℕ) (at count k : ℕ) → at / 64 < length words → at % 64 + count ≤ 64
    → has_bit (set words (at / 64) (with_run words at count)) k ≡ (has_bit words k || (nat_le at k && nat_lt k (at + count)))
has_bit-set_run words at count k within most = word (cases_eq (k / 64) (at / 64))
  where
    word : ((k / 64 ≡ at / 64) ⊎ (k / 64 ≡ at / 64 → ⊥)) → has_bit (set words (at / 64) (with_run words at count)) k ≡ (has_bit words k || (nat_le at k && nat_lt k (at + count)))
    word (inl same) =
        written_here words (at / 64) (with_run words at count) k within same
        ∙ or_joins (get_or words (at / 64) 0) (run (at % 64) count) (k % 64)
        ∙ ap₂ (λ a b. a || b) (word_of words (at / 64) k same) (run_bit (at % 64) count (k % 64) most ∙ in_run at count k most same)
    word (inr other) =
        written_there words (at / 64) (with_run words at count) k within other
        ∙ sym (or_right_false (has_bit words k) (nat_le at k && nat_lt k (at + count)) (out_of_run at count k most other))

-- a run up to a position, and one that goes on from there
pub run_behind_run : (from at next k : ℕ) → from ≤ at → at ≤ next → ((nat_le from k && nat_lt k at) || (nat_le at k && nat_lt k next)) ≡ (nat_le from k && nat_lt k next)
run_behind_run from at next k low high = go (cases_lt k from) (cases_lt k at) (cases_lt k next)
  where
    go : ((k < from) ⊎ (from ≤ k)) → ((k < at) ⊎ (at ≤ k)) → ((k < next) ⊎ (next ≤ k)) → ((nat_le from k && nat_lt k at) || (nat_le at k && nat_lt k next)) ≡ (nat_le from k && nat_lt k next)
    go (inl less) _ _ = rw (lt-leb from k less, lt-leb at k (omega arith)) refl
    go (inr more) (inl less) _ = rw (le-leb from k more, lt-ltb k at less, lt-ltb k next (omega arith)) refl
    go (inr more) (inr past) (inl less) = rw (le-leb from k more, le-ltb k at past, le-leb at k past, lt-ltb k next less) refl
    go (inr more) (inr past) (inr beyond) = rw (le-leb from k more, le-ltb k at past, le-leb at k past, le-ltb k next beyond) refl

-- ---- sets

-- a position is taken out
pub first_bits-remove : (len at : ℕ) (old new : List ℕ) (bits : List Bool) → first_bits len old ≡ bits → at < len
    → ((k : ℕ) → has_bit new k ≡ (has_bit old k && not (k == at))) → first_bits len new ≡ set bits at false
first_bits-remove len at old new bits is below removed =
    first_bits_is len new (set bits at false) (length-set bits at false ∙ size) (λ k within. go k within (cases_eq k at))
  where
    size : length bits ≡ len
    size = length_of len old bits is

    go : (k : ℕ) → k < len → ((k ≡ at) ⊎ (k ≡ at → ⊥)) → has_bit new k ≡ get_or (set bits at false) k false
    go k within (inl here) =
        removed k ∙ and_right (has_bit old k) (not (k == at)) (ap not (eq-eqb k at here))
        ∙ sym (ap (λ j. get_or (set bits at false) j false) here ∙ get_or-set_same bits at false false (omega (arith, size)))
    go k within (inr other) =
        removed k ∙ and_right_true (has_bit old k) (not (k == at)) (ap not (ne_eqb k at other))
        ∙ sym (get_or-first_bits len old k within) ∙ ap (λ l. get_or l k false) is
        ∙ sym (get_or-set_other bits at k false false other)

-- past the length nothing is added by that
pub none_removed : (len at : ℕ) (old new : List ℕ) → ((k : ℕ) → len ≤ k → has_bit old k ≡ false)
    → ((k : ℕ) → has_bit new k ≡ (has_bit old k && not (k == at))) → (k : ℕ) → len ≤ k → has_bit new k ≡ false
none_removed len at old new none removed k past = removed k ∙ ap (λ b. b && not (k == at)) (none k past)

-- nor by a run below the length
pub none_in_run : (len from to : ℕ) (old new : List ℕ) → to ≤ len → ((k : ℕ) → len ≤ k → has_bit old k ≡ false)
    → ((k : ℕ) → has_bit new k ≡ (has_bit old k || (nat_le from k && nat_lt k to))) → (k : ℕ) → len ≤ k → has_bit new k ≡ false
none_in_run len from to old new within none added k past =
    added k ∙ ap₂ (λ a b. a || b) (none k past) (and_right (nat_le from k) (nat_lt k to) (le-ltb k to (omega arith)))

-- words without a bit past the length have the members of their set
pub member-first_bits : (len : ℕ) (words : List ℕ) (bits : List Bool) (k : ℕ) → first_bits len words ≡ bits → ((k : ℕ) → len ≤ k → has_bit words k ≡ false) → get_or bits k false ≡ has_bit words k
member-first_bits len words bits k is none = go (cases_lt k len)
  where
    go : ((k < len) ⊎ (len ≤ k)) → get_or bits k false ≡ has_bit words k
    go (inl within) = ap (λ l. get_or l k false) (sym is) ∙ get_or-first_bits len words k within
    go (inr past) = get_or_past bits k false (omega (arith, length_of len words bits is)) ∙ sym (none k past)

-- ---- what is next in a set is next among its bits
pub next_of_same : (has is : ℕ → Bool) → ((k : ℕ) → is k ≡ has k) → (from : ℕ) (r : Option ℕ) → MatchOption r (HasNoneFrom has from) (IsNextFrom has from) → MatchOption r (HasNoneFrom is from) (IsNextFrom is from)
next_of_same has is same from None h = λ k low. same k ∙ h k low
next_of_same has is same from (Some at) h = record {
  behind = h.behind;
  member = same at ∙ h.member;
  none_between = λ k low high. same k ∙ h.none_between k low high;
}

pub last_of_same : (has is : ℕ → Bool) → ((k : ℕ) → is k ≡ has k) → (to : ℕ) (r : Option ℕ) → MatchOption r (HasNoneUpTo has to) (IsLastUpTo has to) → MatchOption r (HasNoneUpTo is to) (IsLastUpTo is to)
last_of_same has is same to None h = λ k high. same k ∙ h k high
last_of_same has is same to (Some at) h = record {
  before = h.before;
  member = same at ∙ h.member;
  none_between = λ k low high. same k ∙ h.none_between k low high;
}
