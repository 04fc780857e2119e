-- Numbers that are read are spelled so, and numbers that are spelled so are read.
use Rattle.std.proofs.Common.{◌≡◌, ℕ, ◌^◌, ◌<◌, ◌≤◌, false, ltb, List, ◌++◌, length, take, drop, Ok, refl, sym, ap, subst, ◌∙◌, arith, FitsSigned}
use Rattle.std.specs.Int.{Width, w32, w64, byte_len, from_le_bytes, to_le_bytes, cast_signed}
use Rattle.std.proofs.Math.Facts.{Fits-of_lt, Fits-lt-pow, Fits-of_z, sfits_to_z}
use Rattle.std.proofs.lemmas.Bool.{ltb-false, le-ltb}
use Rattle.std.proofs.lemmas.Int.{of_z-to_z, to_z-of_z}
use Rattle.std.proofs.lemmas.List.{take_at, drop_at, take-append-drop, length-append, length-take}
use Rattle.std.proofs.lemmas.Nat.{le_bytes_4, le_bytes_8, from_le_bytes-to_le_bytes_4, from_le_bytes-to_le_bytes_8}
use Rattle.fc_spec.specs.messages.MessageBytes.{long_bytes, integer_bytes}
use Rattle.fc_wire.specs.FieldReading.{number_at, long_at, integer_at}
use Rattle.fc_wire.proofs.Taking.{bind_ok, guard_ok, ok_is, AreBytes, are_dropped, are_taken, Takes, TakesBy, ReadsBy}

-- numbers below the limit have so many bytes, and go into them and back
pub record IsWide (w : Width) (limit : ℕ) : Type 0 where
  len : (n : ℕ) → length (to_le_bytes w n) ≡ byte_len w
  back : (bytes : List ℕ) → length bytes ≡ byte_len w → AreBytes bytes → to_le_bytes w (from_le_bytes w bytes) ≡ bytes
  again : (n : ℕ) → n < limit → from_le_bytes w (to_le_bytes w n) ≡ n
  below : (bytes : List ℕ) → AreBytes bytes → from_le_bytes w bytes < limit

pub wide32 : IsWide w32 (2 ^ 32)
wide32 = record {
  len = λ n. refl;
  back = λ bytes len are. le_bytes_4 bytes _ len are refl;
  again = λ n lt. from_le_bytes-to_le_bytes_4 n lt;
  below = λ bytes are. omega (arith, are 0, are 1, are 2, are 3);
}

wide64 : IsWide w64 (2 ^ 64)
wide64 = record {
  len = λ n. refl;
  back = λ bytes len are. le_bytes_8 bytes _ len are refl;
  again = λ n lt. from_le_bytes-to_le_bytes_8 n lt;
  below = λ bytes are. omega (arith, are 0, are 1, are 2, are 3, are 4, are 5, are 6, are 7);
}

pub number_takes : (w : Width) (limit : ℕ) (wide : IsWide w limit) → TakesBy (number_at w) (to_le_bytes w) (λ n. n < limit)
number_takes w limit wide bytes x are e =
    let g = guard_ok (ltb (length bytes) (byte_len w)) (from_le_bytes w (take (byte_len w) bytes), drop (byte_len w) bytes) x e in
    let long : byte_len w ≤ length bytes = ltb-false _ _ g.0 in
    let n-is : from_le_bytes w (take (byte_len w) bytes) ≡ x.0 = ap (λ (p : ℕ × List ℕ). p.0) g.1 in
    let rest-is : drop (byte_len w) bytes ≡ x.1 = ap (λ (p : ℕ × List ℕ). p.1) g.1 in
    let front : to_le_bytes w x.0 ≡ take (byte_len w) bytes = ap (to_le_bytes w) (sym n-is) ∙ wide.back (take (byte_len w) bytes) (omega (arith, length-take (byte_len w) bytes)) (are_taken (byte_len w) bytes are) in (
      record {
        parts = sym (take-append-drop (byte_len w) bytes) ∙ (λ j. sym front j ++ rest-is j);
        rest_are = subst AreBytes rest-is (are_dropped (byte_len w) bytes are);
      },
      subst (λ n. n < limit) n-is (wide.below (take (byte_len w) bytes) (are_taken (byte_len w) bytes are)),
    )

pub number_again : (w : Width) (limit : ℕ) (wide : IsWide w limit) → ReadsBy (number_at w) (to_le_bytes w) (λ n. n < limit)
number_again w limit wide n rest lt =
    let len = wide.len n in
    let long : ltb (length (to_le_bytes w n ++ rest)) (byte_len w) ≡ false = le-ltb _ _ (omega (arith, length-append (to_le_bytes w n) rest)) in
    rw (long, take_at (to_le_bytes w n) rest (byte_len w) len, drop_at (to_le_bytes w n) rest (byte_len w) len, wide.again n lt) refl

pub long_takes : TakesBy long_at long_bytes (λ n. n < 2 ^ 64)
long_takes = number_takes w64 (2 ^ 64) wide64

pub long_again : ReadsBy long_at long_bytes (λ n. n < 2 ^ 64)
long_again = number_again w64 (2 ^ 64) wide64

pub integer_takes : TakesBy integer_at integer_bytes (FitsSigned w64)
unfolding integer_at
integer_takes bytes x are e =
    let a = bind_ok (long_at bytes) (λ n. Ok (cast_signed w64 n.0, n.1)) x e in
    let t = long_takes bytes a.0 are a.1 in
    let again : integer_bytes (cast_signed w64 a.0.0) ≡ long_bytes a.0.0 = ap long_bytes (of_z-to_z w64 a.0.0 t.1) in
    let own : Takes bytes (integer_bytes (cast_signed w64 a.0.0)) a.0.1 = subst (λ l. Takes bytes l a.0.1) (sym again) t.0 in
    subst (λ y. Takes bytes (integer_bytes y.0) y.1 × FitsSigned w64 y.0) (ok_is (cast_signed w64 a.0.0, a.0.1) x a.2) (own, sfits_to_z (Fits-of_lt t.1))

pub integer_again : ReadsBy integer_at integer_bytes (FitsSigned w64)
unfolding integer_at
integer_again z rest fits = rw (long_again _ rest (Fits-lt-pow (Fits-of_z fits)), to_z-of_z w64 z fits) refl
