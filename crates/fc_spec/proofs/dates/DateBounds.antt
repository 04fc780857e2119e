-- What a moment's parts are between, and the number by which moments stand.
use Rattle.std.proofs.Common.{◌≡◌, ℕ, ◌+◌, ◌-◌, ◌*◌, ◌<◌, ◌≤◌, true, arith}
use Rattle.std.proofs.lemmas.Bool.Decides.{nat_tests}
use Rattle.fc_spec.specs.dates.Calendar.{Moment, month_length, is_moment}
use Rattle.fc_spec.specs.dates.Adding.{second_of_day}

-- a day of the calendar in a year from 1 on, and a time that a clock shows
pub record IsTime (m : Moment) : Type 0 where
  pub year : 1 ≤ m.year
  pub first_month : 1 ≤ m.month
  pub month : m.month ≤ 12
  pub first_day : 1 ≤ m.day
  pub day : m.day ≤ month_length m.year m.month
  pub hour : m.hour < 24
  pub minute : m.minute < 60
  pub second : m.second < 60
  pub milli : m.milli < 1000

pub time_is : (m : Moment) → is_moment m ≡ true → IsTime m × (m.year ≤ 9999)
time_is m h = (
  record {
    year = grind (arith, nat_tests);
    first_month = grind (arith, nat_tests);
    month = grind (arith, nat_tests);
    first_day = grind (arith, nat_tests);
    day = grind (arith, nat_tests);
    hour = grind (arith, nat_tests);
    minute = grind (arith, nat_tests);
    second = grind (arith, nat_tests);
    milli = grind (arith, nat_tests);
  },
  grind (arith, nat_tests),
)

pub moment_is : (m : Moment) → IsTime m → m.year ≤ 9999 → is_moment m ≡ true
moment_is m t h =
    let a = t.year in let b = t.first_month in let c = t.month in let d = t.first_day in let e = t.day in
    let f = t.hour in let g = t.minute in let i = t.second in let j = t.milli in
    grind (arith, nat_tests)

-- a month has 28 to 31 days
pub length_in : (y m : ℕ) → (28 ≤ month_length y m) × (month_length y m ≤ 31)
length_in y m = grind (arith, nat_tests)

-- days before the day, where each month has 31
unfoldable pub day_key : Moment → ℕ
day_key m = (m.year * 12 + (m.month - 1)) * 31 + (m.day - 1)

-- and seconds before the second
unfoldable pub time_key : Moment → ℕ
unfolding day_key
time_key m = day_key m * 86_400 + second_of_day m
