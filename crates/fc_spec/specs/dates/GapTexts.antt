-- Gap texts: `+`, a number from 1 to 9,999 without a leading zero, and a unit. Guide: Date Formatting and Date Math, "Date Math Syntax".
use Rattle.std.specs.Prelude.{ℕ, ◌*◌, ◌++◌, length, take, drop, slice_index, codes, Bool, not, ◌&&◌, ◌||◌, ◌==◌, nat_le, Option, None, Some, if◌then◌else◌}
use Rattle.std.specs.List.{prefix_len}
use Rattle.fc_spec.specs.documents.Val.{Text, same_text}
use Rattle.fc_spec.specs.documents.IntegerTexts.{natural_of}
use Rattle.fc_spec.specs.documents.SchemaReading.{is_digit}
use Rattle.fc_spec.specs.words.Options.{◌>>=◌}

-- what gaps are counted in: calendar months, days, or seconds
pub data Unit : Type 0 where
  months : Unit
  days : Unit
  seconds : Unit

pub record Gap : Type 0 where
  pub unit : Unit
  pub number : ℕ

-- the word, perhaps with S
abbrev pub is_unit : (word : Text) → Text → Bool
is_unit word t = same_text t word || same_text t (word ++ codes "S")

-- so many of the unit of this name: a year is 12 months, an hour 3,600 seconds
abbrev pub gap_named : ℕ → Text → Option Gap
gap_named n t =
    if is_unit (codes "YEAR") t then Some (record { unit = months; number = n * 12 })
    else (if is_unit (codes "MONTH") t then Some (record { unit = months; number = n })
    else (if is_unit (codes "DAY") t then Some (record { unit = days; number = n })
    else (if is_unit (codes "HOUR") t then Some (record { unit = seconds; number = n * 3600 })
    else (if is_unit (codes "MINUTE") t then Some (record { unit = seconds; number = n * 60 })
    else (if is_unit (codes "SECOND") t then Some (record { unit = seconds; number = n }) else None)))))

-- at most 4 bytes, the first of them not 0
abbrev pub is_gap_number : Text → Bool
is_gap_number t = nat_le (length t) 4 && not (slice_index t 0 == 48)

-- the gap of digits and a unit's name
abbrev pub gap_of_parts : (digits name : Text) → Option Gap
gap_of_parts digits name = if is_gap_number digits then (natural_of digits >>= λ n. gap_named n name) else None

-- the gap of what stands behind the `+`, which the digits at its front and the name behind them make
abbrev pub gap_behind : Text → Option Gap
gap_behind t = gap_of_parts (take (prefix_len is_digit t) t) (drop (prefix_len is_digit t) t)

-- the gap that a text says; none where it is no gap text
abbrev pub gap_of : Text → Option Gap
gap_of t = if slice_index t 0 == 43 then gap_behind (drop 1 t) else None
