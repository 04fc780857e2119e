-- Numbers by their digits: how they compare, and that they are read again.
use Rattle.std.proofs.Common.{◌≡◌, ℕ, ◌+◌, ◌*◌, ◌/◌, ◌%◌, ◌<◌, suc, ◌++◌, true, Some, inl, inr, ap, sym, ◌∙◌, arith}
use Rattle.std.specs.Cmp.{nat_cmp_is}
use Rattle.std.specs.Ordering.{nat_cmp, ordering_then}
use Rattle.std.specs.declared.cmp.Ordering.{Ordering}
use Rattle.std.specs.declared.cmp.Ordering.TheVariants.{Less, Equal, Greater}
use Rattle.std.specs.Char.{is_ascii_digit, digit_value}
use Rattle.std.proofs.lemmas.Bool.{cases_order}
use Rattle.std.proofs.lemmas.Bool.Decides.{nat_tests}
use Rattle.std.proofs.Math.Nat.{mul-le-mul_right, suc-mul}
use Rattle.fc_spec.specs.documents.Val.{Text, text_cmp}
use Rattle.fc_spec.specs.documents.IntegerTexts.{natural_of}
use Rattle.fc_spec.specs.dates.DateTexts.{padded}

pub less : (x y : ℕ) → x < y → nat_cmp x y ≡ Less
less x y h = sym (nat_cmp_is x y Less h)

greater : (x y : ℕ) → y < x → nat_cmp x y ≡ Greater
greater x y h = sym (nat_cmp_is x y Greater h)

pub equal : (x y : ℕ) → x ≡ y → nat_cmp x y ≡ Equal
equal x y h = sym (nat_cmp_is x y Equal h)

-- ---- comparing

pub shift : (n c d : ℕ) → nat_cmp (n + c) (n + d) ≡ nat_cmp c d
shift n c d = elim (cases_order c d) [
  | inl e ↦ equal (n + c) (n + d) (omega arith) ∙ sym (equal c d e)
  | inr (inl l) ↦ less (n + c) (n + d) (omega arith) ∙ sym (less c d l)
  | inr (inr g) ↦ greater (n + c) (n + d) (omega arith) ∙ sym (greater c d g)
]

scaled_less : (K a b c d : ℕ) → c < K → a < b → a * K + c < b * K + d
scaled_less K a b c d h l = omega (arith, mul-le-mul_right {m = suc a} {n = b} K (omega arith), suc-mul a K)

-- two numbers one behind the other compare as one
pub two : (K a b c d : ℕ) (r : Ordering) → c < K → d < K → ordering_then (nat_cmp a b) (ordering_then (nat_cmp c d) r) ≡ ordering_then (nat_cmp (a * K + c) (b * K + d)) r
two K a b c d r hc hd = elim (cases_order a b) [
  | inl e ↦
      ap (λ o. ordering_then o (ordering_then (nat_cmp c d) r)) (equal a b e)
      ∙ ap (λ o. ordering_then o r) (sym (shift (a * K) c d) ∙ ap (λ n. nat_cmp (a * K + c) (n * K + d)) e)
  | inr (inl l) ↦
      ap (λ o. ordering_then o (ordering_then (nat_cmp c d) r)) (less a b l)
      ∙ sym (ap (λ o. ordering_then o r) (less _ _ (scaled_less K a b c d hc l)))
  | inr (inr g) ↦
      ap (λ o. ordering_then o (ordering_then (nat_cmp c d) r)) (greater a b g)
      ∙ sym (ap (λ o. ordering_then o r) (greater _ _ (scaled_less K b a d c hd g)))
]

-- a number and a digit behind it
digit : (a b c d : ℕ) (r : Ordering) → c < 10 → d < 10 → ordering_then (nat_cmp a b) (ordering_then (nat_cmp (48 + c) (48 + d)) r) ≡ ordering_then (nat_cmp (a * 10 + c) (b * 10 + d)) r
digit a b c d r hc hd = ap (λ o. ordering_then (nat_cmp a b) (ordering_then o r)) (shift 48 c d) ∙ two 10 a b c d r hc hd

first : (a b : ℕ) (r : Ordering) → ordering_then (nat_cmp (48 + a) (48 + b)) r ≡ ordering_then (nat_cmp a b) r
first a b r = ap (λ o. ordering_then o r) (shift 48 a b)

digits_2 : (n : ℕ) → n < 100 → n / 10 % 10 * 10 + n / 1 % 10 ≡ n
digits_2 n h = omega arith

digits_3 : (n : ℕ) → n < 1000 → (n / 100 % 10 * 10 + n / 10 % 10) * 10 + n / 1 % 10 ≡ n
digits_3 n h = omega arith

digits_4 : (n : ℕ) → n < 10000 → ((n / 1000 % 10 * 10 + n / 100 % 10) * 10 + n / 10 % 10) * 10 + n / 1 % 10 ≡ n
digits_4 n h = omega arith

low : (n : ℕ) → n % 10 < 10
low n = omega arith

pub two_digits : (n m : ℕ) (xs ys : Text) → n < 100 → m < 100 → text_cmp (padded 2 n ++ xs) (padded 2 m ++ ys) ≡ ordering_then (nat_cmp n m) (text_cmp xs ys)
two_digits n m xs ys hn hm =
    let r = text_cmp xs ys in
    first (n / 10 % 10) (m / 10 % 10) _
    ∙ digit (n / 10 % 10) (m / 10 % 10) (n / 1 % 10) (m / 1 % 10) r (low _) (low _)
    ∙ (λ i. ordering_then (nat_cmp (digits_2 n hn i) (digits_2 m hm i)) r)

pub three_digits : (n m : ℕ) (xs ys : Text) → n < 1000 → m < 1000 → text_cmp (padded 3 n ++ xs) (padded 3 m ++ ys) ≡ ordering_then (nat_cmp n m) (text_cmp xs ys)
three_digits n m xs ys hn hm =
    let r = text_cmp xs ys in
    first (n / 100 % 10) (m / 100 % 10) _
    ∙ digit (n / 100 % 10) (m / 100 % 10) (n / 10 % 10) (m / 10 % 10) (ordering_then (nat_cmp (48 + n / 1 % 10) (48 + m / 1 % 10)) r) (low _) (low _)
    ∙ digit (n / 100 % 10 * 10 + n / 10 % 10) (m / 100 % 10 * 10 + m / 10 % 10) (n / 1 % 10) (m / 1 % 10) r (low _) (low _)
    ∙ (λ i. ordering_then (nat_cmp (digits_3 n hn i) (digits_3 m hm i)) r)

pub four_digits : (n m : ℕ) (xs ys : Text) → n < 10000 → m < 10000 → text_cmp (padded 4 n ++ xs) (padded 4 m ++ ys) ≡ ordering_then (nat_cmp n m) (text_cmp xs ys)
four_digits n m xs ys hn hm =
    let r = text_cmp xs ys in
    let last = ordering_then (nat_cmp (48 + n / 1 % 10) (48 + m / 1 % 10)) r in
    first (n / 1000 % 10) (m / 1000 % 10) _
    ∙ digit (n / 1000 % 10) (m / 1000 % 10) (n / 100 % 10) (m / 100 % 10) (ordering_then (nat_cmp (48 + n / 10 % 10) (48 + m / 10 % 10)) last) (low _) (low _)
    ∙ digit (n / 1000 % 10 * 10 + n / 100 % 10) (m / 1000 % 10 * 10 + m / 100 % 10) (n / 10 % 10) (m / 10 % 10) last (low _) (low _)
    ∙ digit ((n / 1000 % 10 * 10 + n / 100 % 10) * 10 + n / 10 % 10) ((m / 1000 % 10 * 10 + m / 100 % 10) * 10 + m / 10 % 10) (n / 1 % 10) (m / 1 % 10) r (low _) (low _)
    ∙ (λ i. ordering_then (nat_cmp (digits_4 n hn i) (digits_4 m hm i)) r)

-- ---- reading

is_digit : (d : ℕ) → d < 10 → is_ascii_digit (48 + d) ≡ true
is_digit d h = grind (arith, nat_tests)

digit_is : (d : ℕ) → d < 10 → digit_value (48 + d) ≡ d
digit_is d h = grind (arith, nat_tests)

pub reads_2 : (n : ℕ) → n < 100 → natural_of (padded 2 n) ≡ Some n
reads_2 n h = rw (is_digit _ (low (n / 10)), is_digit _ (low (n / 1)), digit_is _ (low (n / 10)), digit_is _ (low (n / 1))) (ap Some (let e : (0 * 10 + n / 10 % 10) * 10 + n / 1 % 10 ≡ n = omega arith in e))

pub reads_3 : (n : ℕ) → n < 1000 → natural_of (padded 3 n) ≡ Some n
reads_3 n h = rw (is_digit _ (low (n / 100)), is_digit _ (low (n / 10)), is_digit _ (low (n / 1)), digit_is _ (low (n / 100)), digit_is _ (low (n / 10)), digit_is _ (low (n / 1))) (ap Some (let e : ((0 * 10 + n / 100 % 10) * 10 + n / 10 % 10) * 10 + n / 1 % 10 ≡ n = omega arith in e))

pub reads_4 : (n : ℕ) → n < 10000 → natural_of (padded 4 n) ≡ Some n
reads_4 n h = rw (is_digit _ (low (n / 1000)), is_digit _ (low (n / 100)), is_digit _ (low (n / 10)), is_digit _ (low (n / 1)), digit_is _ (low (n / 1000)), digit_is _ (low (n / 100)), digit_is _ (low (n / 10)), digit_is _ (low (n / 1))) (ap Some (let e : (((0 * 10 + n / 1000 % 10) * 10 + n / 100 % 10) * 10 + n / 10 % 10) * 10 + n / 1 % 10 ≡ n = omega arith in e))
