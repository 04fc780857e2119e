-- Canonical texts are ASCII.
use Rattle.std.proofs.Common.{◌≡◌, ℕ, ◌+◌, ◌%◌, ◌<◌, [], ◌∷◌, Option, Some, None, option_map, subst, arith}
use Rattle.std.specs.Str.{IsAscii, IsUtf8}
use Rattle.std.proofs.lemmas.Str.{IsUtf8-from_ascii}
use Rattle.std.proofs.lemmas.Str.Ascii.{IsAscii-nil, IsAscii-cons}
use Rattle.fc_spec.specs.documents.Val.{Text}
use Rattle.fc_spec.specs.dates.Calendar.{Moment}
use Rattle.fc_spec.specs.dates.DateTexts.{canonical_text, moment_of, IsCanonical}

record IsPlain (bs : Text) : Type 0 where
  plain : IsAscii bs

byte : (b : ℕ) (bs : Text) → b < 128 → IsPlain bs → IsPlain (b ∷ bs)
byte b bs h k = record { plain = IsAscii-cons b bs h k.plain }

digit : (n : ℕ) (bs : Text) → IsPlain bs → IsPlain ((48 + n % 10) ∷ bs)
digit n bs h = byte (48 + n % 10) bs (omega arith) h

end : IsPlain (90 ∷ [])
end = byte 90 [] (omega arith) (record { plain = IsAscii-nil })

written_ascii : (m : Moment) → IsPlain (canonical_text m)
written_ascii m =
    digit _ _ (digit _ _ (digit _ _ (digit _ _ (byte 45 _ (omega arith)
    (digit _ _ (digit _ _ (byte 45 _ (omega arith)
    (digit _ _ (digit _ _ (byte 84 _ (omega arith)
    (digit _ _ (digit _ _ (byte 58 _ (omega arith)
    (digit _ _ (digit _ _ (byte 58 _ (omega arith)
    (digit _ _ (digit _ _ (byte 46 _ (omega arith)
    (digit _ _ (digit _ _ (digit _ _ end))))))))))))))))))))))

some_is : (x y : Text) → Some x ≡ Some y → x ≡ y
some_is x y e = cc

pub canonical_utf8 : (t : Text) → IsCanonical t → IsUtf8 t
canonical_utf8 t h = at (moment_of t) h
  where
    at : (o : Option Moment) → option_map canonical_text o ≡ Some t → IsUtf8 t
    at None e = absurd cc
    at (Some m) e = subst IsUtf8 (some_is (canonical_text m) t e) (IsUtf8-from_ascii (canonical_text m) (written_ascii m).plain)
