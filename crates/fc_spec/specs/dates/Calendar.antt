-- Days of the Gregorian calendar with a time of day, in UTC. Guide: Date Formatting and Date Math.
use Rattle.std.specs.Prelude.{ℕ, ◌%◌, Bool, not, ◌&&◌, ◌||◌, ◌==◌, nat_le, nat_lt, if◌then◌else◌}
use Rattle.std.specs.Ordering.{nat_cmp, ordering_then}
use Rattle.std.specs.declared.cmp.Ordering.{Ordering}

-- a time in a day, in thousandths of a second
pub record Moment : Type 0 where
  pub year : ℕ
  pub month : ℕ
  pub day : ℕ
  pub hour : ℕ
  pub minute : ℕ
  pub second : ℕ
  pub milli : ℕ

-- every fourth year, but of the centuries only every fourth
abbrev pub is_leap_year : ℕ → Bool
is_leap_year y = (y % 4 == 0) && (not (y % 100 == 0) || (y % 400 == 0))

-- the days of a month: thirty have September, April, June and November
abbrev pub month_length : (year month : ℕ) → ℕ
month_length y m =
    if m == 2 then (if is_leap_year y then 29 else 28)
    else (if (m == 4) || (m == 6) || (m == 9) || (m == 11) then 30 else 31)

-- the number is from one to another, both included
abbrev pub is_from_to : (low high : ℕ) → ℕ → Bool
is_from_to low high n = nat_le low n && nat_le n high

-- a day that the calendar has, in a year from 1 to 9999
abbrev pub is_day : (year month day : ℕ) → Bool
is_day y m d = is_from_to 1 9999 y && is_from_to 1 12 m && is_from_to 1 (month_length y m) d

-- such a day, and a time that a clock shows
abbrev pub is_moment : Moment → Bool
is_moment m = is_day m.year m.month m.day && nat_lt m.hour 24 && nat_lt m.minute 60 && nat_lt m.second 60 && nat_lt m.milli 1000

-- the order of time
abbrev pub moment_cmp : Moment → Moment → Ordering
moment_cmp a b =
    ordering_then (nat_cmp a.year b.year) (ordering_then (nat_cmp a.month b.month) (ordering_then (nat_cmp a.day b.day)
    (ordering_then (nat_cmp a.hour b.hour) (ordering_then (nat_cmp a.minute b.minute) (ordering_then (nat_cmp a.second b.second) (nat_cmp a.milli b.milli))))))
