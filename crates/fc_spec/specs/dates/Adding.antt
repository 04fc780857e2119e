-- A gap later. Guide: Date Formatting and Date Math, "Date Math Syntax".
use Rattle.std.specs.Prelude.{ℕ, zero, suc, ◌+◌, ◌-◌, ◌*◌, ◌/◌, ◌%◌, min, nat_le, nat_lt, Option, None, Some, if◌then◌else◌}
use Rattle.fc_spec.specs.documents.Val.{Text}
use Rattle.fc_spec.specs.words.Options.{◌>>=◌}
use Rattle.fc_spec.specs.dates.Calendar.{Moment, month_length}
use Rattle.fc_spec.specs.dates.DateTexts.{moment_of, canonical_text}
use Rattle.fc_spec.specs.dates.GapTexts.{Unit, months, days, seconds, Gap}

-- the same time in the month of this number, counted from January of the year 0: on the same day of the month, or on its last
abbrev pub in_month : (number : ℕ) → Moment → Moment
in_month k m = record m { year = k / 12; month = k % 12 + 1; day = min m.day (month_length (k / 12) (k % 12 + 1)) }

abbrev pub months_later : ℕ → Moment → Moment
months_later n m = in_month (m.year * 12 + (m.month - 1) + n) m

-- the same time on the next day
abbrev pub next_day : Moment → Moment
next_day m =
    if nat_lt m.day (month_length m.year m.month) then record m { day = m.day + 1 }
    else (if nat_lt m.month 12 then record m { month = m.month + 1; day = 1 } else record m { year = m.year + 1; month = 1; day = 1 })

abbrev pub days_later : ℕ → Moment → Moment
days_later zero m = m
days_later (suc n) m = next_day (days_later n m)

-- the seconds of the day before the moment
abbrev pub second_of_day : Moment → ℕ
second_of_day m = m.hour * 3600 + m.minute * 60 + m.second

-- the same day at another second of it
abbrev pub at_second : (second : ℕ) → Moment → Moment
at_second s m = record m { hour = s / 3600; minute = s / 60 % 60; second = s % 60 }

abbrev pub seconds_later : ℕ → Moment → Moment
seconds_later n m = let sum = second_of_day m + n in at_second (sum % 86_400) (days_later (sum / 86_400) m)

-- so many of the unit later
abbrev pub later : Unit → ℕ → Moment → Moment
later months n m = months_later n m
later days n m = days_later n m
later seconds n m = seconds_later n m

-- the canonical text of a date text's moment a gap later; none past the year 9999
abbrev pub added : Text → Gap → Option Text
added t g = do
  m ← moment_of t
  let sum = later g.unit g.number m in if nat_le sum.year 9999 then Some (canonical_text sum) else None
