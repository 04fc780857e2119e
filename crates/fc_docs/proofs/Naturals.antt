-- A number's text of which an integer that is not negative was read is that number, without a sign.
use Rattle.std.proofs.Common.{◌≡◌, ℕ, zero, suc, ◌^◌, ◌&&◌, ◌==◌, List, drop, slice_index, Bool, true, false, nat_lt, nat_le, if◌then◌else◌, Option, Some, None, option_and_then, pos, Float, ap, refl}
use Rattle.std.specs.Float.{binary64, float_is_finite}
use Rattle.fast_float.specs.Text.{minus, Parts, scan, digits_of, nearest, with_sign}
use Rattle.serde_json.specs.Data.{Num, unsigned, negative, float}
use Rattle.serde_json.specs.Find.{as_i64}
use Rattle.serde_json.specs.Read.{is_integer, float_of, number_from, number_of}

never_float : (finite : Bool) (x : Float) (n : ℕ) → option_and_then as_i64 (if finite then Some (float x) else None) ≡ Some (pos n) → ⊥
never_float true x n is = cc
never_float false x n is = cc

from_unsigned : (d n : ℕ) → as_i64 (unsigned d) ≡ Some (pos n) → d ≡ n
from_unsigned d n is = go (nat_lt d (2 ^ 63)) is
  where
    go : (small : Bool) → (if small then Some (pos d) else None) ≡ Some (pos n) → d ≡ n
    go true is = cc
    go false is = cc

below_zero : (d n : ℕ) → nat_lt 0 d ≡ true → with_sign true d ≡ pos n → ⊥
below_zero zero n some is = cc
below_zero (suc k) n some is = cc

without_sign : (p : Parts) (n : ℕ) → option_and_then as_i64 (number_from false p) ≡ Some (pos n) → number_from false p ≡ Some (unsigned n)
without_sign p n is = go (is_integer p && nat_lt (digits_of p) (2 ^ 64)) is
  where
    go : (fits : Bool) → option_and_then as_i64 (if fits then Some (unsigned (digits_of p)) else float_of false p) ≡ Some (pos n) → (if fits then Some (unsigned (digits_of p)) else float_of false p) ≡ Some (unsigned n)
    go true is = ap (λ k. Some (unsigned k)) (from_unsigned (digits_of p) n is)
    go false is = absurd (never_float (float_is_finite (nearest binary64 false p)) (nearest binary64 false p) n is)

never_signed : (p : Parts) (n : ℕ) → option_and_then as_i64 (number_from true p) ≡ Some (pos n) → ⊥
never_signed p n is = go (is_integer p) (nat_lt 0 (digits_of p)) (nat_le (digits_of p) (2 ^ 63)) refl is
  where
    read : Bool → Option Num
    read fits = if fits then Some (negative (with_sign true (digits_of p))) else float_of true p

    no_float : option_and_then as_i64 (float_of true p) ≡ Some (pos n) → ⊥
    no_float is = never_float (float_is_finite (nearest binary64 true p)) (nearest binary64 true p) n is

    go : (whole some small : Bool) → nat_lt 0 (digits_of p) ≡ some → option_and_then as_i64 (read (whole && some && small)) ≡ Some (pos n) → ⊥
    go true true true some_is is = let same : with_sign true (digits_of p) ≡ pos n = cc in below_zero (digits_of p) n some_is same
    go true true false some_is is = no_float is
    go true false small some_is is = no_float is
    go false some small some_is is = no_float is

pub unsigned_from : (s : List ℕ) (n : ℕ) → option_and_then as_i64 (number_of s) ≡ Some (pos n) → number_of s ≡ Some (unsigned n)
unfolding number_of
unsigned_from s n is = go (slice_index s 0 == minus) is
  where
    either : Bool → Option Num
    either signed = if signed then number_from true (scan (drop 1 s)) else number_from false (scan s)

    go : (signed : Bool) → option_and_then as_i64 (either signed) ≡ Some (pos n) → either signed ≡ Some (unsigned n)
    go true is = absurd (never_signed (scan (drop 1 s)) n is)
    go false is = without_sign (scan s) n is
