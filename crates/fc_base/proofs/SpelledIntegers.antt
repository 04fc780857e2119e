-- What `parse` gives of a text without `+` in front is the integer that the text spells.
use Rattle.std.proofs.Common.{◌≡◌, ℕ, ◌^◌, ◌<◌, ◌≤◌, ◌+◌, zero, suc, ℤ, pos, neg_ℤ, drop, length, get_or, Bool, true, false, ◌&&◌, nat_le, Option, None, Some, Result, Ok, Err, option_map, option_and_then, if◌then◌else◌, refl, ap, arith}
use Rattle.std.specs.Prelude.{◌==◌, slice_index}
use Rattle.std.specs.Int.{w64}
use Rattle.std.specs.Result.{OkIff, result_ok}
use Rattle.std.specs.Str.{all_ascii_digits}
use Rattle.std.specs.Str.Parse.{digits_value, ParsesSigned}
use Rattle.std.proofs.lemmas.Bool.Decides.{nat_tests}
use Rattle.std.proofs.lemmas.Str.Parse.{IsNumeralModel, numerals_by_value, tells_all_ascii_digits, parse_signed_minus, parse_signed_plain}
use Rattle.fc_spec.specs.documents.Val.{Text}
use Rattle.fc_spec.specs.documents.IntegerTexts.{natural_of, is_long, long_of}

own : IsNumeralModel (λ ds. all_ascii_digits ds ≡ true) (digits_value 10)
own = numerals_by_value (λ ds. all_ascii_digits ds ≡ true) tells_all_ascii_digits

-- within 64 bits signed
long_below : (n : ℕ) → is_long (pos n) ≡ nat_le (n + 1) (2 ^ 63)
long_below n = grind (arith, nat_tests)

long_above : (n : ℕ) → is_long (neg_ℤ (pos n)) ≡ nat_le n (2 ^ 63)
long_above zero = refl
long_above (suc n) = grind (arith, nat_tests)

-- digits behind a sign that makes z of their number
abbrev given : (ℕ → ℤ) → Text → Option ℤ
given sign ds = option_and_then (λ z. if is_long z then Some z else None) (option_map sign (natural_of ds))

read : {E : Type 0} (sign : ℕ → ℤ) (ds : Text) (r : Result ℤ E) (fits : ℕ → Type 0) → ((n : ℕ) → fits n → is_long (sign n) ≡ true) → ((n : ℕ) → is_long (sign n) ≡ true → fits n)
    → OkIff r ((all_ascii_digits ds ≡ true) × (0 < length ds) × fits (digits_value 10 ds)) (sign (digits_value 10 ds)) → result_ok r ≡ given sign ds
read sign ds (Ok z) fits to from is =
    let some : nat_le 1 (length ds) ≡ true = let h = is.0.1 in grind (arith, nat_tests) in
    rw (some, is.0.0, to (digits_value 10 ds) is.0.2) (ap Some is.1)
read sign ds (Err e) fits to from not = go (nat_le 1 (length ds)) (all_ascii_digits ds) refl refl
  where
    go : (some all : Bool) → nat_le 1 (length ds) ≡ some → all_ascii_digits ds ≡ all → None ≡ option_and_then (λ z. if is_long z then Some z else None) (option_map sign (if some && all then Some (digits_value 10 ds) else None))
    go false all some_is all_is = refl
    go true false some_is all_is = refl
    go true true some_is all_is = last (is_long (sign (digits_value 10 ds))) refl
      where
        last : (b : Bool) → is_long (sign (digits_value 10 ds)) ≡ b → None ≡ (if b then Some (sign (digits_value 10 ds)) else None)
        last false is = refl
        last true is = absurd (not (all_is, (let h = some_is in grind (arith, nat_tests)), from (digits_value 10 ds) is))

pub spelled : {E : Type 0} (t : Text) (r : Result ℤ E) → (get_or t 0 0 ≡ 43 → ⊥) → ParsesSigned w64 10 t r → result_ok r ≡ long_of t
spelled t r plain parses = go (slice_index t 0 == 45) refl
  where
    go : (b : Bool) → (slice_index t 0 == 45) ≡ b → result_ok r ≡ option_and_then (λ z. if is_long z then Some z else None) (if b then option_map (λ n. neg_ℤ (pos n)) (natural_of (drop 1 t)) else option_map (λ n. pos n) (natural_of t))
    go true is = read (λ n. neg_ℤ (pos n)) (drop 1 t) r (λ n. n ≤ 2 ^ 63) (λ n fits. rw long_above (grind (arith, nat_tests))) (λ n long. let h = rw long_above at long in grind (arith, nat_tests)) (parse_signed_minus own w64 t r parses (grind (arith, nat_tests)))
    go false is = read (λ n. pos n) t r (λ n. n < 2 ^ 63) (λ n fits. rw long_below (grind (arith, nat_tests))) (λ n long. let h = rw long_below at long in grind (arith, nat_tests)) (parse_signed_plain own w64 t r parses plain (grind (arith, nat_tests)))
