-- The moments of the definitions by their nanoseconds.
use Rattle.std.proofs.Common.{◌≡◌, ℕ, ◌+◌, ◌*◌, ◌/◌, ◌%◌, ◌<◌, ◌≤◌, Bool, true, false, if◌then◌else◌, Some, None, refl, ap, sym, subst, ◌∙◌, arith, ℤ, pos, negsuc, ◌+ℤ◌, ◌*ℤ◌, ◌≤ℤ◌, unsigned_abs}
use Rattle.std.specs.Prelude.{nat_le}
use Rattle.std.proofs.lemmas.Bool.Decides.{nat_tests}
use Rattle.jiff.specs.Types.{DateTime}
use Rattle.jiff_core.specs.Calendar.{days_from_civil}
use Rattle.jiff.specs.Words.{days_in_month, add_months, IsShiftable, IsCivilNanos, civil_nanos, time_nanos, epoch_day}
use Rattle.jiff.proofs.Family.{civil_nanos-parts, civil_nanos_injective, civil_nanos_range, epoch_day_injective, time_nanos_injective}
use Rattle.jiff.proofs.SpanFacts.{signed_arith}
use Rattle.fc_spec.specs.dates.Calendar.{Moment}
use Rattle.fc_spec.specs.dates.Adding.{second_of_day, days_later, seconds_later, months_later}
use Rattle.fc_spec.proofs.dates.DateBounds.{IsTime}
use Rattle.fc_spec.proofs.dates.LaterDates.{days_are, months_time, seconds_time}
use Rattle.fc_dates.specs.MomentView.{moment_view, IsWhole, in_years}
use Rattle.fc_dates.proofs.CivilDays.{civil_day, days_civil, months_civil, months_year, year_within}

-- nanoseconds since midnight
abbrev pub clock_nanos : Moment → ℕ
clock_nanos m = (second_of_day m * 1000 + m.milli) * 1_000_000

-- nanoseconds since 1970
pub moment_nanos : Moment → ℤ
moment_nanos m = civil_day m *ℤ pos 86_400_000_000_000 +ℤ pos (clock_nanos m)

pub nanos_are : (m : Moment) → moment_nanos m ≡ civil_day m *ℤ pos 86_400_000_000_000 +ℤ pos (clock_nanos m)
unfolding moment_nanos
nanos_are m = refl

clock_bound : (m : Moment) → IsTime m → clock_nanos m < 86_400_000_000_000
clock_bound m t = omega (arith, t.hour, t.minute, t.second, t.milli)

-- ---- a datetime as a moment

from_one : (z : ℤ) → pos 1 ≤ℤ z → z ≡ pos (unsigned_abs z)
from_one (pos n) h = refl
from_one (negsuc n) h = absurd (omega (arith, signed_arith, h))

pub year_is : (dt : DateTime) → IsWhole dt → dt.date.year ≡ pos (moment_view dt).year
year_is dt w = from_one dt.date.year w.year

pub time_of : (dt : DateTime) → IsWhole dt → IsTime (moment_view dt)
time_of dt w =
    let year = year_is dt w in
    record {
      year = omega (arith, signed_arith, w.year);
      first_month = dt.date.month_in.0;
      month = dt.date.month_in.1;
      first_day = dt.date.day_in.0;
      day = subst (λ y. dt.date.day ≤ days_in_month y dt.date.month) year dt.date.day_in.1;
      hour = dt.time.hour_in;
      minute = dt.time.minute_in;
      second = dt.time.second_in;
      milli = omega (arith, dt.time.subsec_in);
    }

pub view_nanos : (dt : DateTime) → IsWhole dt → civil_nanos dt ≡ moment_nanos (moment_view dt)
view_nanos dt w =
    let day : epoch_day dt.date ≡ civil_day (moment_view dt) = ap (λ y. days_from_civil y dt.date.month dt.date.day) (year_is dt w) in
    omega (arith, signed_arith, civil_nanos-parts dt, nanos_are (moment_view dt), day, w.milli)

-- ---- a moment as a datetime

pub datetime_of : (m : Moment) → IsTime m → m.year ≤ 9999 → DateTime
datetime_of m t h = record {
  date = record { year = pos m.year; month = m.month; day = m.day; year_in = omega (arith, signed_arith, h); month_in = (t.first_month, t.month); day_in = (t.first_day, t.day) };
  time = record { hour = m.hour; minute = m.minute; second = m.second; subsec_nanosecond = m.milli * 1_000_000; hour_in = t.hour; minute_in = t.minute; second_in = t.second; subsec_in = omega (arith, t.milli) };
}

datetime_nanos : (m : Moment) (t : IsTime m) (h : m.year ≤ 9999) → civil_nanos (datetime_of m t h) ≡ moment_nanos m
unfolding datetime_of
datetime_nanos m t h = omega (arith, signed_arith, civil_nanos-parts (datetime_of m t h), nanos_are m)

-- the calendar has the moment exactly up to the year 9999
in_range : (m : Moment) (t : IsTime m) → m.year ≤ 9999 → IsCivilNanos (moment_nanos m)
in_range m t h = subst IsCivilNanos (datetime_nanos m t h) (civil_nanos_range (datetime_of m t h))

pub has_year : (m : Moment) → IsTime m → IsCivilNanos (moment_nanos m) → m.year ≤ 9999
has_year m t h = year_within m t (omega (arith, signed_arith, h, nanos_are m))

-- a datetime at the moment shows it
same_view : (dt : DateTime) (m : Moment) (t : IsTime m) → m.year ≤ 9999 → civil_nanos dt ≡ moment_nanos m → (moment_view dt ≡ m) × IsWhole dt
unfolding datetime_of
same_view dt m t h e =
    let other = datetime_of m t h in
    let same = civil_nanos_injective dt other (e ∙ sym (datetime_nanos m t h)) in
    let date = epoch_day_injective dt.date other.date same.0 in
    let time = time_nanos_injective dt.time other.time same.1 in
    let milli : dt.time.subsec_nanosecond / 1_000_000 ≡ m.milli = omega (arith, time.3) in (
      λ i. record {
        year = unsigned_abs (date.0 i);
        month = date.1 i;
        day = date.2 i;
        hour = time.0 i;
        minute = time.1 i;
        second = time.2 i;
        milli = milli i;
      },
      record { year = omega (arith, signed_arith, date.0, t.year); milli = omega (arith, time.3) },
    )

pub found : (dt : DateTime) (m : Moment) → IsTime m → IsCivilNanos (moment_nanos m) → civil_nanos dt ≡ moment_nanos m → (Some (moment_view dt) ≡ in_years m) × IsWhole dt
found dt m t can e =
    let year = has_year m t can in
    let same = same_view dt m t year e in
    let within : nat_le m.year 9999 ≡ true = grind (arith, nat_tests) in
    (ap Some same.0 ∙ sym (ap (λ b. if b then Some m else None) within), same.1)

pub past : (m : Moment) → 9999 < m.year → None ≡ in_years m
past m h =
    let beyond : nat_le m.year 9999 ≡ false = grind (arith, nat_tests) in
    sym (ap (λ b. if b then Some m else None) beyond)

pub missing : (m : Moment) → IsTime m → (IsCivilNanos (moment_nanos m) → ⊥) → None ≡ in_years m
missing m t cannot = go (nat_le m.year 9999) refl
  where
    go : (b : Bool) → nat_le m.year 9999 ≡ b → None ≡ (if b then Some m else None)
    go true e = absurd (cannot (in_range m t (let k = e in grind (arith, nat_tests))))
    go false e = refl

-- ---- later

pub days_nanos : (n : ℕ) (m : Moment) → IsTime m → moment_nanos (days_later n m) ≡ moment_nanos m +ℤ (pos n *ℤ pos 86_400_000_000_000)
days_nanos n m t =
    let apart = days_are n m t in
    omega (arith, signed_arith, nanos_are m, nanos_are (days_later n m), days_civil n m t, apart.clock, apart.milli)

pub seconds_nanos : (n : ℕ) (m : Moment) → IsTime m → moment_nanos (seconds_later n m) ≡ moment_nanos m +ℤ (pos n *ℤ pos 1_000_000_000)
seconds_nanos n m t =
    let sum = second_of_day m + n in
    let apart = days_are (sum / 86_400) m t in
    let civil : civil_day (seconds_later n m) ≡ civil_day m +ℤ pos (sum / 86_400) = days_civil (sum / 86_400) m t in
    let clock : second_of_day (seconds_later n m) ≡ sum % 86_400 = omega arith in
    omega (arith, signed_arith, nanos_are m, nanos_are (seconds_later n m), civil, clock, apart.milli)

-- ---- what a datetime shows that is later, and where there is none

pub days_found : (at sum : DateTime) (n : ℕ) → IsWhole at → IsCivilNanos (civil_nanos at +ℤ (pos n *ℤ pos 86_400_000_000_000)) → civil_nanos sum ≡ civil_nanos at +ℤ (pos n *ℤ pos 86_400_000_000_000)
    → (Some (moment_view sum) ≡ in_years (days_later n (moment_view at))) × IsWhole sum
days_found at sum n w can value =
    let m = moment_view at in
    let t = time_of at w in
    let e = days_nanos n m t ∙ ap (λ z. z +ℤ (pos n *ℤ pos 86_400_000_000_000)) (sym (view_nanos at w)) in
    found sum (days_later n m) (days_are n m t).time (subst IsCivilNanos (sym e) can) (value ∙ sym e)

pub days_missing : (at : DateTime) (n : ℕ) → IsWhole at → (IsCivilNanos (civil_nanos at +ℤ (pos n *ℤ pos 86_400_000_000_000)) → ⊥) → None ≡ in_years (days_later n (moment_view at))
days_missing at n w cannot =
    let m = moment_view at in
    let t = time_of at w in
    let e = days_nanos n m t ∙ ap (λ z. z +ℤ (pos n *ℤ pos 86_400_000_000_000)) (sym (view_nanos at w)) in
    missing (days_later n m) (days_are n m t).time (λ can. cannot (subst IsCivilNanos e can))

pub days_past : (at : DateTime) (n : ℕ) → IsWhole at → 7_304_484 < n → None ≡ in_years (days_later n (moment_view at))
days_past at n w h = days_missing at n w (λ can. omega (arith, signed_arith, h, can, civil_nanos_range at))

pub seconds_found : (at sum : DateTime) (n : ℕ) → IsWhole at → IsCivilNanos (civil_nanos at +ℤ (pos n *ℤ pos 1_000_000_000)) → civil_nanos sum ≡ civil_nanos at +ℤ (pos n *ℤ pos 1_000_000_000)
    → (Some (moment_view sum) ≡ in_years (seconds_later n (moment_view at))) × IsWhole sum
seconds_found at sum n w can value =
    let m = moment_view at in
    let t = time_of at w in
    let e = seconds_nanos n m t ∙ ap (λ z. z +ℤ (pos n *ℤ pos 1_000_000_000)) (sym (view_nanos at w)) in
    found sum (seconds_later n m) (seconds_time n m t) (subst IsCivilNanos (sym e) can) (value ∙ sym e)

pub seconds_missing : (at : DateTime) (n : ℕ) → IsWhole at → (IsCivilNanos (civil_nanos at +ℤ (pos n *ℤ pos 1_000_000_000)) → ⊥) → None ≡ in_years (seconds_later n (moment_view at))
seconds_missing at n w cannot =
    let m = moment_view at in
    let t = time_of at w in
    let e = seconds_nanos n m t ∙ ap (λ z. z +ℤ (pos n *ℤ pos 1_000_000_000)) (sym (view_nanos at w)) in
    missing (seconds_later n m) (seconds_time n m t) (λ can. cannot (subst IsCivilNanos e can))

months_nanos : (at : DateTime) (n : ℕ) → IsWhole at → moment_nanos (months_later n (moment_view at)) ≡ add_months at.date (pos n) *ℤ pos 86_400_000_000_000 +ℤ pos (time_nanos at.time)
months_nanos at n w =
    let m = moment_view at in
    let day = months_civil at.date m n w.year (year_is at w) refl refl in
    omega (arith, signed_arith, nanos_are (months_later n m), day, w.milli)

pub months_found : (at sum : DateTime) (n : ℕ) → IsWhole at → IsCivilNanos (add_months at.date (pos n) *ℤ pos 86_400_000_000_000 +ℤ pos (time_nanos at.time))
    → civil_nanos sum ≡ add_months at.date (pos n) *ℤ pos 86_400_000_000_000 +ℤ pos (time_nanos at.time) → (Some (moment_view sum) ≡ in_years (months_later n (moment_view at))) × IsWhole sum
months_found at sum n w can value =
    let m = moment_view at in
    let e = months_nanos at n w in
    found sum (months_later n m) (months_time n m (time_of at w)) (subst IsCivilNanos (sym e) can) (value ∙ sym e)

pub months_missing : (at : DateTime) (n : ℕ) → IsWhole at → ((IsShiftable at.date (pos n) × IsCivilNanos (add_months at.date (pos n) *ℤ pos 86_400_000_000_000 +ℤ pos (time_nanos at.time))) → ⊥) → None ≡ in_years (months_later n (moment_view at))
months_missing at n w cannot = go (nat_le sum.year 9999) refl
  where
    sum : Moment
    sum = months_later n (moment_view at)

    time : IsTime sum
    time = months_time n (moment_view at) (time_of at w)

    go : (b : Bool) → nat_le sum.year 9999 ≡ b → None ≡ (if b then Some sum else None)
    go true e =
        let within : sum.year ≤ 9999 = let k = e in grind (arith, nat_tests) in
        let year = months_year at.date (moment_view at) n (year_is at w) refl in
        absurd (cannot (omega (arith, signed_arith, year, within), subst IsCivilNanos (months_nanos at n w) (in_range sum time within)))
    go false e = refl

pub months_past : (at : DateTime) (n : ℕ) → IsWhole at → 119_988 < n → None ≡ in_years (months_later n (moment_view at))
months_past at n w h = past (months_later n (moment_view at)) (omega (arith, h, (time_of at w).year))
