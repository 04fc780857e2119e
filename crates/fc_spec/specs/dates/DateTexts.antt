-- Date texts: `YYYY-MM-DDThh:mm:ss`, perhaps `.` and 1 to 9 digits, and `Z`. Guide: Date Formatting and Date Math, "Date Formatting".
use Rattle.std.specs.Prelude.{◌≡◌, ℕ, zero, suc, ◌+◌, ◌-◌, ◌*◌, ◌/◌, ◌%◌, ◌^◌, [], ◌∷◌, ◌++◌, length, take, drop, slice_index, codes, Bool, ◌&&◌, ◌==◌, nat_le, Option, None, Some, option_map, if◌then◌else◌}
use Rattle.fc_spec.specs.documents.Val.{Text, same_text}
use Rattle.fc_spec.specs.documents.IntegerTexts.{natural_of}
use Rattle.fc_spec.specs.words.Options.{◌>>=◌}
use Rattle.fc_spec.specs.dates.Calendar.{Moment, is_moment}

-- the last digits of a number, so many
abbrev pub padded : (width : ℕ) → ℕ → Text
padded zero n = []
padded (suc w) n = (48 + n / 10 ^ w % 10) ∷ padded w n

-- the canonical text, of 24 bytes: exactly three digits stand behind the point
abbrev pub canonical_text : Moment → Text
canonical_text m =
    padded 4 m.year ++ codes "-" ++ padded 2 m.month ++ codes "-" ++ padded 2 m.day ++ codes "T"
    ++ padded 2 m.hour ++ codes ":" ++ padded 2 m.minute ++ codes ":" ++ padded 2 m.second ++ codes "." ++ padded 3 m.milli ++ codes "Z"

-- the number that so many digits from a place on write
abbrev pub number_at : Text → (from width : ℕ) → Option ℕ
number_at t from width = natural_of (take width (drop from t))

-- 20 bytes or more, with what stands between the numbers
abbrev pub has_marks : Text → Bool
has_marks t =
    nat_le 20 (length t) && (slice_index t 4 == 45) && (slice_index t 7 == 45) && (slice_index t 10 == 84) && (slice_index t 13 == 58) && (slice_index t 16 == 58)

-- the thousandths that 1 to 9 digits behind a point write: missing ones are 0, later ones are dropped
abbrev pub thousandths_of : Text → Option ℕ
thousandths_of t = if nat_le (length t) 9 then option_map (λ n. n * 1000 / 10 ^ length t) (natural_of t) else None

-- what stands behind the seconds: `Z`, or `.`, digits and `Z`
abbrev pub milli_of : Text → Option ℕ
milli_of t =
    if same_text t (codes "Z") then Some 0
    else (if (slice_index t 0 == 46) && (slice_index t (length t - 1) == 90) then thousandths_of (take (length t - 2) (drop 1 t)) else None)

-- the numbers at their places, whatever they are
abbrev pub parts_of : Text → Option Moment
parts_of t = do
  year ← number_at t 0 4
  month ← number_at t 5 2
  day ← number_at t 8 2
  hour ← number_at t 11 2
  minute ← number_at t 14 2
  second ← number_at t 17 2
  milli ← milli_of (drop 19 t)
  Some (record { year = year; month = month; day = day; hour = hour; minute = minute; second = second; milli = milli })

-- the moment that a date text says; none where it is no date text
abbrev pub moment_of : Text → Option Moment
moment_of t = if has_marks t then (parts_of t >>= λ m. if is_moment m then Some m else None) else None

-- the canonical text of a date text
abbrev pub canonical_of : Text → Option Text
canonical_of t = option_map canonical_text (moment_of t)

-- it is the canonical text of what it says
abbrev pub IsCanonical : Text → Type 0
IsCanonical t = canonical_of t ≡ Some t
