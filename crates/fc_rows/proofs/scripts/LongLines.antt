-- The limits of a line and of a script: no literal of so many bytes computes, so the rows are of all lines.
use Rattle.std.specs.Prelude.{◌≡◌, refl, [], ◌∷◌, length, nat_le, Bool, true, false, ok_or, Err}
use Rattle.std.proofs.Math.Bool.{and-false}
use Rattle.fc_spec.specs.documents.Val.{Text}
use Rattle.fc_spec.specs.scripts.ScriptFault.{not_json, no_schema, long_line, too_long}
use Rattle.fc_spec.specs.scripts.ScriptLines.{lines_of, is_blank, json_of}
use Rattle.fc_spec.specs.scripts.ScriptReading.{value_on, script}

abbrev fits_line : Text → Bool
fits_line l = nat_le (length l) 1_048_576

abbrev fits_script : Text → Bool
fits_script bytes = nat_le (length bytes) 67_108_864

-- a line past the limit, blank or not, is too long
pub longer_line : (bytes l : Text) → lines_of bytes ≡ l ∷ [] → fits_line l ≡ false → fits_script bytes ≡ true → script bytes ≡ Err (record { line = 1; fault = long_line })
longer_line bytes l one long fits = rw (fits, one, long, and-false (is_blank l)) (rw long refl)

-- a blank line of at most so many bytes is passed over
pub blank_line : (bytes l : Text) → lines_of bytes ≡ l ∷ [] → is_blank l ≡ true → fits_line l ≡ true → fits_script bytes ≡ true → script bytes ≡ Err (record { line = 0; fault = no_schema })
blank_line bytes l one blank short fits = rw (fits, one, blank, short) refl

pub line_within : (l : Text) → fits_line l ≡ true → value_on l ≡ ok_or (json_of l) not_json
line_within l short = rw short refl

-- more bytes than a script may have
pub longer_script : (bytes : Text) → fits_script bytes ≡ false → script bytes ≡ Err (record { line = 0; fault = too_long })
longer_script bytes long = rw long refl
