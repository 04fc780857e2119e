-- A gap later is later.
use Rattle.std.proofs.Common.{◌≡◌, ℕ, zero, suc, ◌+◌, ◌-◌, ◌*◌, ◌/◌, ◌%◌, ◌<◌, ◌≤◌, refl, ◌∙◌, arith, Bool, true, false, if◌then◌else◌}
use Rattle.std.specs.Prelude.{nat_lt}
use Rattle.std.specs.declared.cmp.Ordering.TheVariants.{Less}
use Rattle.std.proofs.lemmas.Bool.Decides.{nat_tests}
use Rattle.fc_spec.specs.dates.Calendar.{Moment, month_length, is_moment, moment_cmp}
use Rattle.fc_spec.specs.dates.GapTexts.{Unit, months, days, seconds}
use Rattle.fc_spec.specs.dates.Adding.{months_later, next_day, days_later, second_of_day, seconds_later, later}
use Rattle.fc_spec.proofs.dates.DateBounds.{IsTime, time_is, moment_is, length_in, day_key, time_key}
use Rattle.fc_spec.proofs.dates.DateOrder.{earlier}

-- a time so many days later at least, at the same second of the day
pub record AreDaysApart (n : ℕ) (m s : Moment) : Type 0 where
  pub time : IsTime s
  pub key : day_key m + n ≤ day_key s
  pub clock : second_of_day s ≡ second_of_day m
  pub milli : s.milli ≡ m.milli

pub next_is : (m : Moment) → IsTime m → AreDaysApart 1 m (next_day m)
unfolding day_key
next_is m t = go (nat_lt m.day (month_length m.year m.month)) refl (nat_lt m.month 12) refl
  where
    long : (28 ≤ month_length m.year m.month) × (month_length m.year m.month ≤ 31)
    long = length_in m.year m.month

    go : (b : Bool) → nat_lt m.day (month_length m.year m.month) ≡ b → (c : Bool) → nat_lt m.month 12 ≡ c
        → AreDaysApart 1 m (if b then record m { day = m.day + 1 } else (if c then record m { month = m.month + 1; day = 1 } else record m { year = m.year + 1; month = 1; day = 1 }))
    go true e c f = record {
      time = record { year = t.year; first_month = t.first_month; month = t.month; first_day = omega arith; day = grind (arith, nat_tests); hour = t.hour; minute = t.minute; second = t.second; milli = t.milli };
      key = omega (arith, t.first_day);
      clock = refl;
      milli = refl;
    }
    go false e true f = record {
      time = record { year = t.year; first_month = omega arith; month = grind (arith, nat_tests); first_day = omega arith; day = omega (arith, (length_in m.year (m.month + 1)).0); hour = t.hour; minute = t.minute; second = t.second; milli = t.milli };
      key = omega (arith, t.first_day, t.first_month, t.day, long.1);
      clock = refl;
      milli = refl;
    }
    go false e false f = record {
      time = record { year = omega arith; first_month = omega arith; month = omega arith; first_day = omega arith; day = omega (arith, (length_in (m.year + 1) 1).0); hour = t.hour; minute = t.minute; second = t.second; milli = t.milli };
      key = omega (arith, t.first_day, t.first_month, t.month, t.day, long.1);
      clock = refl;
      milli = refl;
    }

pub days_are : (n : ℕ) (m : Moment) → IsTime m → AreDaysApart n m (days_later n m)
days_are zero m t = record { time = t; key = omega arith; clock = refl; milli = refl }
days_are (suc n) m t =
    let front = days_are n m t in
    let next = next_is (days_later n m) front.time in
    record { time = next.time; key = omega (arith, front.key, next.key); clock = next.clock ∙ front.clock; milli = next.milli ∙ front.milli }

pub months_time : (n : ℕ) (m : Moment) → IsTime m → IsTime (months_later n m)
months_time n m t =
    let k = m.year * 12 + (m.month - 1) + n in
    let long = length_in (k / 12) (k % 12 + 1) in
    record { year = omega (arith, t.year); first_month = omega arith; month = omega arith; first_day = omega (arith, t.first_day, long.0); day = omega arith; hour = t.hour; minute = t.minute; second = t.second; milli = t.milli }

months_are : (n : ℕ) (m : Moment) → IsTime m → 1 ≤ n → AreDaysApart 1 m (months_later n m)
unfolding day_key
months_are n m t h =
    let k = m.year * 12 + (m.month - 1) + n in
    let long = length_in (k / 12) (k % 12 + 1) in
    let here = length_in m.year m.month in
    record {
      time = months_time n m t;
      key = omega (arith, t.first_day, t.day, here.1);
      clock = refl;
      milli = refl;
    }

-- at another second
pub seconds_time : (n : ℕ) (m : Moment) → IsTime m → IsTime (seconds_later n m)
seconds_time n m t =
    let sum = second_of_day m + n in
    let d = (days_are (sum / 86_400) m t).time in
    record {
      year = d.year;
      first_month = d.first_month;
      month = d.month;
      first_day = d.first_day;
      day = d.day;
      hour = omega arith;
      minute = omega arith;
      second = omega arith;
      milli = d.milli;
    }

seconds_are : (n : ℕ) (m : Moment) → IsTime m → 1 ≤ n → IsTime (seconds_later n m) × (time_key m < time_key (seconds_later n m))
unfolding day_key time_key
seconds_are n m t h =
    let sum = second_of_day m + n in
    let days = days_are (sum / 86_400) m t in
    (seconds_time n m t, omega (arith, days.key))

pub later_time : (u : Unit) (n : ℕ) (m : Moment) → IsTime m → IsTime (later u n m)
later_time months n m t = months_time n m t
later_time days n m t = (days_are n m t).time
later_time seconds n m t = seconds_time n m t

day_later : (n : ℕ) (m s : Moment) → 1 ≤ n → AreDaysApart n m s → time_key m < time_key s
unfolding time_key
day_later n m s h apart = omega (arith, apart.key, apart.clock)

later_is : (u : Unit) (n : ℕ) (m : Moment) → IsTime m → 1 ≤ n → IsTime (later u n m) × (time_key m < time_key (later u n m))
later_is months n m t h = let apart = months_are n m t h in (apart.time, day_later 1 m (months_later n m) (omega arith) apart)
later_is days n m t h = let apart = days_are n m t in (apart.time, day_later n m (days_later n m) h apart)
later_is seconds n m t h = seconds_are n m t h

pub goes_on : (u : Unit) (n : ℕ) (m : Moment) → is_moment m ≡ true → 1 ≤ n → (later u n m).year ≤ 9999 → (is_moment (later u n m) ≡ true) × (moment_cmp m (later u n m) ≡ Less)
goes_on u n m valid h year =
    let t = (time_is m valid).0 in
    let l = later_is u n m t h in
    (moment_is (later u n m) l.0 year, earlier m (later u n m) t l.0 l.1)
