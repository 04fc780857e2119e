-- What the calendar's datetimes stand for in the definitions.
use Rattle.std.specs.Prelude.{◌≡◌, ◌/◌, ◌%◌, ◌<◌, ◌≤ℤ◌, pos, unsigned_abs, nat_le, Option, Some, None, if◌then◌else◌}
use Rattle.jiff.specs.Types.{DateTime}
use Rattle.fc_spec.specs.dates.Calendar.{Moment}
use Rattle.fc_dates.specs.declared.parts.Parts.{Parts}

abbrev pub moment_view : DateTime → Moment
moment_view dt = record {
  year = unsigned_abs dt.date.year;
  month = dt.date.month;
  day = dt.date.day;
  hour = dt.time.hour;
  minute = dt.time.minute;
  second = dt.time.second;
  milli = dt.time.subsec_nanosecond / 1_000_000;
}

-- it is of a year from 1 on, and says whole thousandths of a second
pub record IsWhole (dt : DateTime) : Type 0 where
  pub year : pos 1 ≤ℤ dt.date.year
  pub milli : dt.time.subsec_nanosecond % 1_000_000 ≡ 0

abbrev pub parts_view : Parts → Moment
parts_view p = record { year = p.year; month = p.month; day = p.day; hour = p.hour; minute = p.minute; second = p.second; milli = p.milli }

-- they have as many digits as stand at their places
pub record AreSmall (p : Parts) : Type 0 where
  pub year : p.year < 10000
  pub month : p.month < 100
  pub day : p.day < 100
  pub hour : p.hour < 100
  pub minute : p.minute < 100
  pub second : p.second < 100
  pub milli : p.milli < 1000

-- the moment, where its year is at most 9999
abbrev pub in_years : Moment → Option Moment
in_years m = if nat_le m.year 9999 then Some m else None
