-- A text behind its length.
use Rattle.std.proofs.Common.{◌≡◌, ℕ, ◌≤◌, Bool, true, false, List, length, take, drop, Ok, Err, refl}
use Rattle.std.proofs.lemmas.Bool.{le-ltb}
use Rattle.std.specs.Str.{IsUtf8, is_utf8}
use Rattle.std.proofs.lemmas.Str.{IsUtf8-from_is_utf8, is_utf8-from_IsUtf8}
use Rattle.fc_wire.specs.FieldReading.{long_at, text_at}

pub text_is : (bytes rest : List ℕ) (n : ℕ) → long_at bytes ≡ Ok (n, rest) → n ≤ length rest → IsUtf8 (take n rest) → text_at bytes ≡ Ok (take n rest, drop n rest)
unfolding text_at
text_is bytes rest n h long utf8 = rw (h, le-ltb (length rest) n long, is_utf8-from_IsUtf8 (take n rest) utf8) refl

pub no_text : (bytes rest : List ℕ) (n : ℕ) → long_at bytes ≡ Ok (n, rest) → n ≤ length rest → (IsUtf8 (take n rest) → ⊥) → text_at bytes ≡ Err tt
unfolding text_at
no_text bytes rest n h long not = rw (h, le-ltb (length rest) n long, not_utf8) refl
  where
    not_utf8 : is_utf8 (take n rest) ≡ false
    not_utf8 = go (is_utf8 (take n rest)) refl
      where
        go : (b : Bool) → is_utf8 (take n rest) ≡ b → b ≡ false
        go true e = absurd (not (IsUtf8-from_is_utf8 (take n rest) e))
        go false e = refl
