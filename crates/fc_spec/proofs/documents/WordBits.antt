-- The bits of words, after a word is changed.
use Rattle.std.proofs.Common.{◌≡◌, ℕ, ◌+◌, ◌-◌, ◌*◌, ◌/◌, ◌%◌, ◌^◌, ◌<◌, ◌≤◌, ◌⊎◌, inl, inr, min, max, Bool, true, false, cond, not, ◌&&◌, ◌||◌, ◌==◌, nat_lt, List, length, get_or, set, replicate, refl, sym, ap, ap₂, ◌∙◌, arith, bit_and, bit_or, w64, mod-eq_of_lt, one-mul, eq-eqb, ne_eqb, lt-ltb, le-ltb}
use Rattle.std.proofs.lemmas.List.{get_or-set_same, get_or-set_other, get_or-replicate, get_or_past, length-replicate}
use Rattle.std.proofs.lemmas.Bool.{and_right, or_right, cases_eq, cases_lt}
use Rattle.std.proofs.lemmas.Bool.Decides.{nat_tests}
use Rattle.std.proofs.lemmas.Nat.{pow_below}
use Rattle.std.proofs.lemmas.Nat.Bits.{bit_at_and, bit_at_or, bit_at_not, bit_at-lt, bit_at-zero, bit_at_set_same, bit_at_set_other, bit_at_ones, bit_at_ones_above}
use Rattle.std.specs.Int.{bit_at, bit_not}
use Rattle.fc_spec.specs.documents.Bits.{has_bit}

-- ---- one bit as a test
pub bit_and_test : (x y : ℕ) → x < 2 → y < 2 → (min x y == 1) ≡ ((x == 1) && (y == 1))
bit_and_test x y p q = grind (arith, nat_tests)

pub bit_or_test : (x y : ℕ) → x < 2 → y < 2 → (max x y == 1) ≡ ((x == 1) || (y == 1))
bit_or_test x y p q = grind (arith, nat_tests)

pub bit_not_test : (x : ℕ) → x < 2 → (1 - x == 1) ≡ not (x == 1)
bit_not_test x p = grind (arith, nat_tests)

-- a position is its word and its bit
pub same_position : (j k : ℕ) → j / 64 ≡ k / 64 → j % 64 ≡ k % 64 → j ≡ k
same_position j k p q = omega arith

-- past the last word there are only 0s
pub has_bit_past : (words : List ℕ) (k : ℕ) → length words ≤ k / 64 → has_bit words k ≡ false
unfolding has_bit
has_bit_past words k past = ap (λ w. bit_at w (k % 64) == 1) (get_or_past words (k / 64) 0 past) ∙ ap (λ b. b == 1) (bit_at-zero (k % 64))

-- words of 0s, and of 1s
pub has_bit_of_zeros : (n k : ℕ) → has_bit (replicate n 0) k ≡ false
unfolding has_bit
has_bit_of_zeros n k = go (cases_lt (k / 64) n)
  where
    go : ((k / 64 < n) ⊎ (n ≤ k / 64)) → has_bit (replicate n 0) k ≡ false
    go (inl within) =
        ap (λ w. bit_at w (k % 64) == 1) (get_or-replicate n (k / 64) 0 0 within) ∙ ap (λ b. b == 1) (bit_at-zero (k % 64))
    go (inr past) = has_bit_past (replicate n 0) k (omega (arith, length-replicate {A = ℕ} n 0))

pub has_bit_of_ones : (n k : ℕ) → k / 64 < n → has_bit (replicate n (2 ^ 64 - 1)) k ≡ true
unfolding has_bit
has_bit_of_ones n k within =
    ap (λ w. bit_at w (k % 64) == 1) (get_or-replicate n (k / 64) (2 ^ 64 - 1) 0 within)
    ∙ ap (λ b. b == 1) (bit_at_ones 64 (k % 64) (omega arith))

-- ---- after a word is written
pub has_bit-set : (words : List ℕ) (i w k : ℕ) → i < length words
    → has_bit (set words i w) k ≡ cond (k / 64 == i) (bit_at w (k % 64) == 1) (has_bit words k)
unfolding has_bit
has_bit-set words i w k within = go (cases_eq (k / 64) i)
  where
    go : ((k / 64 ≡ i) ⊎ (k / 64 ≡ i → ⊥)) → has_bit (set words i w) k ≡ cond (k / 64 == i) (bit_at w (k % 64) == 1) (has_bit words k)
    go (inl same) =
        ap (λ n. bit_at n (k % 64) == 1) (ap (λ j. get_or (set words i w) j 0) same ∙ get_or-set_same words i w 0 within)
        ∙ sym (ap (λ t. cond t (bit_at w (k % 64) == 1) (has_bit words k)) (eq-eqb (k / 64) i same))
    go (inr other) =
        ap (λ n. bit_at n (k % 64) == 1) (get_or-set_other words i (k / 64) w 0 other)
        ∙ sym (ap (λ t. cond t (bit_at w (k % 64) == 1) (has_bit words k)) (ne_eqb (k / 64) i other))

-- in the written word, and in the others
has_bit-set_here : (words : List ℕ) (i w k : ℕ) → i < length words → k / 64 ≡ i → has_bit (set words i w) k ≡ (bit_at w (k % 64) == 1)
has_bit-set_here words i w k within same =
    has_bit-set words i w k within ∙ ap (λ t. cond t (bit_at w (k % 64) == 1) (has_bit words k)) (eq-eqb (k / 64) i same)

has_bit-set_there : (words : List ℕ) (i w k : ℕ) → i < length words → (k / 64 ≡ i → ⊥) → has_bit (set words i w) k ≡ has_bit words k
has_bit-set_there words i w k within other =
    has_bit-set words i w k within ∙ ap (λ t. cond t (bit_at w (k % 64) == 1) (has_bit words k)) (ne_eqb (k / 64) i other)

-- the bit of k in the word of k
has_bit_here : (words : List ℕ) (i k : ℕ) → k / 64 ≡ i → (bit_at (get_or words i 0) (k % 64) == 1) ≡ has_bit words k
unfolding has_bit
has_bit_here words i k same = ap (λ j. bit_at (get_or words j 0) (k % 64) == 1) (sym same)

-- ---- a bit is set
pub or_right_false : (a b : Bool) → b ≡ false → (a || b) ≡ a
or_right_false true b e = refl
or_right_false false b e = e

-- the word of a position, with its bit set
abbrev pub with_bit : List ℕ → ℕ → ℕ
with_bit words at = bit_or (get_or words (at / 64) 0) (1 * 2 ^ (at % 64) % 2 ^ 64)

pub has_bit-set_one : (words : List ℕ) (at k : ℕ) → at / 64 < length words
    → has_bit (set words (at / 64) (with_bit words at)) k ≡ (has_bit words k || (k == at))
has_bit-set_one words at k within = word (cases_eq (k / 64) (at / 64))
  where
    small : at % 64 < 64
    small = omega arith

    bit : k / 64 ≡ at / 64 → ((k % 64 ≡ at % 64) ⊎ (k % 64 ≡ at % 64 → ⊥)) → (bit_at (with_bit words at) (k % 64) == 1) ≡ (has_bit words k || (k == at))
    bit same (inl here) =
        ap (λ b. b == 1) (ap (bit_at (with_bit words at)) here ∙ bit_at_set_same w64 (get_or words (at / 64) 0) (at % 64) small)
        ∙ sym (or_right (has_bit words k) (k == at) (eq-eqb k at (same_position k at same here)))
    bit same (inr other) =
        ap (λ b. b == 1) (bit_at_set_other w64 (get_or words (at / 64) 0) (at % 64) small (k % 64) other)
        ∙ has_bit_here words (at / 64) k same
        ∙ sym (or_right_false (has_bit words k) (k == at) (ne_eqb k at (λ e. other (ap (λ n. n % 64) e))))

    word : ((k / 64 ≡ at / 64) ⊎ (k / 64 ≡ at / 64 → ⊥)) → has_bit (set words (at / 64) (with_bit words at)) k ≡ (has_bit words k || (k == at))
    word (inl same) = has_bit-set_here words (at / 64) (with_bit words at) k within same ∙ bit same (cases_eq (k % 64) (at % 64))
    word (inr other) =
        has_bit-set_there words (at / 64) (with_bit words at) k within other
        ∙ sym (or_right_false (has_bit words k) (k == at) (ne_eqb k at (λ e. other (ap (λ n. n / 64) e))))

-- ---- the bits from a position on are cleared
pub and_right_true : (a b : Bool) → b ≡ true → (a && b) ≡ a
and_right_true true b e = e
and_right_true false b e = refl

pub cleared_past : (words : List ℕ) (len k : ℕ) → length words ≡ (len + 63) / 64 → len % 64 ≡ 0 → has_bit words k ≡ (has_bit words k && nat_lt k len)
cleared_past words len k size whole = go (cases_lt k len)
  where
    go : ((k < len) ⊎ (len ≤ k)) → has_bit words k ≡ (has_bit words k && nat_lt k len)
    go (inl within) = sym (and_right_true (has_bit words k) (nat_lt k len) (lt-ltb k len within))
    go (inr past) =
        has_bit_past words k (omega arith) ∙ sym (and_right (has_bit words k) (nat_lt k len) (le-ltb k len past))

pub one_shl : (u : ℕ) → u < 64 → 1 * 2 ^ u % 2 ^ 64 ≡ 2 ^ u
one_shl u small = ap (λ n. n % 2 ^ 64) (one-mul (2 ^ u)) ∙ mod-eq_of_lt (pow_below u 64 small)

-- the bits below a number of bits
abbrev pub mask_below : ℕ → ℕ
mask_below used = 1 * 2 ^ used % 2 ^ 64 - 1

pub has_bit-cleared : (words : List ℕ) (len k : ℕ) → length words ≡ (len + 63) / 64 → (len % 64 ≡ 0 → ⊥)
    → has_bit (set words (len / 64) (bit_and (get_or words (len / 64) 0) (mask_below (len % 64)))) k ≡ (has_bit words k && nat_lt k len)
has_bit-cleared words len k size some = word (cases_eq (k / 64) (len / 64))
  where
    within : len / 64 < length words
    within = omega arith

    mask_is : mask_below (len % 64) ≡ 2 ^ (len % 64) - 1
    mask_is = ap (λ n. n - 1) (one_shl (len % 64) (omega arith))

    both : (bit_at (bit_and (get_or words (len / 64) 0) (mask_below (len % 64))) (k % 64) == 1) ≡ ((bit_at (get_or words (len / 64) 0) (k % 64) == 1) && (bit_at (mask_below (len % 64)) (k % 64) == 1))
    both =
        ap (λ b. b == 1) (bit_at_and (get_or words (len / 64) 0) (mask_below (len % 64)) (k % 64))
        ∙ bit_and_test (bit_at (get_or words (len / 64) 0) (k % 64)) (bit_at (mask_below (len % 64)) (k % 64)) (bit_at-lt (get_or words (len / 64) 0) (k % 64)) (bit_at-lt (mask_below (len % 64)) (k % 64))

    masked : k / 64 ≡ len / 64 → (bit_at (mask_below (len % 64)) (k % 64) == 1) ≡ nat_lt k len
    masked same = go (cases_lt (k % 64) (len % 64))
      where
        go : ((k % 64 < len % 64) ⊎ (len % 64 ≤ k % 64)) → (bit_at (mask_below (len % 64)) (k % 64) == 1) ≡ nat_lt k len
        go (inl low) =
            ap (λ b. b == 1) (ap (λ m. bit_at m (k % 64)) mask_is ∙ bit_at_ones (len % 64) (k % 64) low) ∙ sym (lt-ltb k len (omega arith))
        go (inr high) =
            ap (λ b. b == 1) (ap (λ m. bit_at m (k % 64)) mask_is ∙ bit_at_ones_above (len % 64) (k % 64) high) ∙ sym (le-ltb k len (omega arith))

    word : ((k / 64 ≡ len / 64) ⊎ (k / 64 ≡ len / 64 → ⊥)) → has_bit (set words (len / 64) (bit_and (get_or words (len / 64) 0) (mask_below (len % 64)))) k ≡ (has_bit words k && nat_lt k len)
    word (inl same) =
        has_bit-set_here words (len / 64) (bit_and (get_or words (len / 64) 0) (mask_below (len % 64))) k within same
        ∙ both ∙ ap₂ (λ a b. a && b) (has_bit_here words (len / 64) k same) (masked same)
    word (inr other) =
        has_bit-set_there words (len / 64) (bit_and (get_or words (len / 64) 0) (mask_below (len % 64))) k within other ∙ go (cases_lt k len)
      where
        go : ((k < len) ⊎ (len ≤ k)) → has_bit words k ≡ (has_bit words k && nat_lt k len)
        go (inl below) = sym (and_right_true (has_bit words k) (nat_lt k len) (lt-ltb k len below))
        go (inr past) =
            has_bit_past words k (omega arith) ∙ sym (and_right (has_bit words k) (nat_lt k len) (le-ltb k len past))

-- ---- words joined one by one
pub has_bit_joined : (join : Bool → Bool → Bool) (new old others : List ℕ) → join false false ≡ false → length old ≡ length new → length others ≡ length new
    → ((k i : ℕ) → k < length new → i < 64 → (bit_at (get_or new k 0) i == 1) ≡ join (bit_at (get_or old k 0) i == 1) (bit_at (get_or others k 0) i == 1))
    → (k : ℕ) → has_bit new k ≡ join (has_bit old k) (has_bit others k)
unfolding has_bit
has_bit_joined join new old others none size others_size joined k = go (cases_lt (k / 64) (length new))
  where
    go : ((k / 64 < length new) ⊎ (length new ≤ k / 64)) → has_bit new k ≡ join (has_bit old k) (has_bit others k)
    go (inl within) = joined (k / 64) (k % 64) within (omega arith)
    go (inr past) =
        has_bit_past new k past ∙ sym none
        ∙ sym (ap₂ join (has_bit_past old k (omega arith)) (has_bit_past others k (omega arith)))

pub and_joins : (a b i : ℕ) → (bit_at (bit_and a b) i == 1) ≡ ((bit_at a i == 1) && (bit_at b i == 1))
and_joins a b i = ap (λ n. n == 1) (bit_at_and a b i) ∙ bit_and_test (bit_at a i) (bit_at b i) (bit_at-lt a i) (bit_at-lt b i)

pub or_joins : (a b i : ℕ) → (bit_at (bit_or a b) i == 1) ≡ ((bit_at a i == 1) || (bit_at b i == 1))
or_joins a b i = ap (λ n. n == 1) (bit_at_or a b i) ∙ bit_or_test (bit_at a i) (bit_at b i) (bit_at-lt a i) (bit_at-lt b i)

pub and_not_joins : (a b i : ℕ) → b < 2 ^ 64 → i < 64 → (bit_at (bit_and a (bit_not w64 b)) i == 1) ≡ ((bit_at a i == 1) && not (bit_at b i == 1))
and_not_joins a b i fits small =
    and_joins a (bit_not w64 b) i
    ∙ ap (λ t. (bit_at a i == 1) && t) (ap (λ n. n == 1) (bit_at_not w64 b i fits small) ∙ bit_not_test (bit_at b i) (bit_at-lt b i))
