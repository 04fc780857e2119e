-- The days of the definitions are those of the calendar.
use Rattle.std.proofs.Common.{◌≡◌, ℕ, zero, suc, ◌+◌, ◌-◌, ◌*◌, ◌/◌, ◌%◌, ◌≤◌, min, Bool, true, false, if◌then◌else◌, refl, ap, sym, ◌∙◌, rules, arith, ℤ, pos, ◌+ℤ◌, ◌≤ℤ◌}
use Rattle.std.specs.Prelude.{nat_lt}
use Rattle.std.proofs.lemmas.Bool.Decides.{nat_tests}
use Rattle.jiff.specs.Types.{Date}
use Rattle.jiff.specs.Words.{add_months, shifted_year, shifted_month, days_in_month}
use Rattle.jiff_core.specs.Calendar.{days_from_civil}
use Rattle.jiff.proofs.Family.{days_from_civil-day, days_from_civil-next_month, days_from_civil-next_year, days_from_civil-max, days_from_civil-month}
use Rattle.jiff.proofs.SpanFacts.{signed_arith}
use Rattle.fc_spec.specs.dates.Calendar.{Moment, month_length}
use Rattle.fc_spec.specs.dates.Adding.{next_day, days_later, months_later}
use Rattle.fc_spec.proofs.dates.DateBounds.{IsTime}
use Rattle.fc_spec.proofs.dates.LaterDates.{days_are}

-- the day number
abbrev pub civil_day : Moment → ℤ
civil_day m = days_from_civil (pos m.year) m.month m.day

next_civil : (m : Moment) → IsTime m → civil_day (next_day m) ≡ civil_day m +ℤ pos 1
next_civil m t = go (nat_lt m.day (month_length m.year m.month)) refl (nat_lt m.month 12) refl
  where
    go : (b : Bool) → nat_lt m.day (month_length m.year m.month) ≡ b → (c : Bool) → nat_lt m.month 12 ≡ c
        → civil_day (if b then record m { day = m.day + 1 } else (if c then record m { month = m.month + 1; day = 1 } else record m { year = m.year + 1; month = 1; day = 1 })) ≡ civil_day m +ℤ pos 1
    go true e c f = omega (arith, signed_arith, days_from_civil-day (pos m.year) m.month m.day (m.day + 1) t.first_day (omega arith))
    go false e true f =
        let last : m.day ≡ month_length m.year m.month = let d = t.day in grind (arith, nat_tests) in
        days_from_civil-next_month (pos m.year) m.month m.day t.first_month last
    go false e false f =
        let december : m.month ≡ 12 = let d = t.month in grind (arith, nat_tests) in
        let last : m.day ≡ month_length m.year m.month = let d = t.day in grind (arith, nat_tests) in
        let day : m.day ≡ 31 = last ∙ ap (month_length m.year) december in
        let next : pos (m.year + 1) ≡ pos m.year +ℤ pos 1 = omega (arith, signed_arith) in
        days_from_civil-next_year (pos m.year) (pos (m.year + 1)) (omega (arith, signed_arith)) next
        ∙ (λ i. days_from_civil (pos m.year) (sym december i) (sym day i) +ℤ pos 1)

pub days_civil : (n : ℕ) (m : Moment) → IsTime m → civil_day (days_later n m) ≡ civil_day m +ℤ pos n
days_civil zero m t = omega (arith, signed_arith)
days_civil (suc n) m t = omega (arith, signed_arith, days_civil n m t, next_civil (days_later n m) (days_are n m t).time)

-- a month later, by the number of the month
pub months_civil : (d : Date) (m : Moment) (n : ℕ) → pos 1 ≤ℤ d.year → d.year ≡ pos m.year → d.month ≡ m.month → d.day ≡ m.day → add_months d (pos n) ≡ civil_day (months_later n m)
months_civil d m n from year month day =
    let k = m.year * 12 + (m.month - 1) + n in
    let y : shifted_year d (pos n) ≡ pos (k / 12) = omega (arith, signed_arith, year, month) in
    let mo : shifted_month d (pos n) ≡ k % 12 + 1 = omega (arith, signed_arith, year, month) in
    λ i. days_from_civil (y i) (mo i) (min (day i) (days_in_month (y i) (mo i)))

pub months_year : (d : Date) (m : Moment) (n : ℕ) → d.year ≡ pos m.year → d.month ≡ m.month → shifted_year d (pos n) ≡ pos (months_later n m).year
months_year d m n year month = omega (arith, signed_arith, year, month)

-- what is past the last day of 9999 is of a later year
pub year_within : (m : Moment) → IsTime m → civil_day m ≤ℤ pos 2_932_896 → m.year ≤ 9999
year_within m t h = go (nat_lt 9999 m.year) refl
  where
    go : (b : Bool) → nat_lt 9999 m.year ≡ b → m.year ≤ 9999
    go false e = grind (arith, nat_tests)
    go true e =
        let past : 10000 ≤ m.year = grind (arith, nat_tests) in
        let more = days_from_civil-month (pos 9999) (pos m.year) 12 m.month 31 m.day (search rules, search rules, search rules) t.first_month t.month t.first_day (omega (arith, signed_arith, past, t.first_month)) in
        absurd (omega (arith, signed_arith, more, h, days_from_civil-max))
