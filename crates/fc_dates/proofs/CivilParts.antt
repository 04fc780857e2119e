-- The parts of a moment are those of a datetime.
use Rattle.std.proofs.Common.{◌≡◌, ◌*◌, true, arith, ℤ, pos}
use Rattle.jiff.specs.Words.{IsDate, IsTime}
use Rattle.jiff.proofs.SpanFacts.{signed_arith}
use Rattle.fc_spec.specs.dates.Calendar.{Moment, is_moment}
use Rattle.fc_spec.proofs.dates.DateBounds.{time_is}

pub civil_parts : (m : Moment) → is_moment m ≡ true → (y mo d h mi s ns : ℤ) → y ≡ pos m.year → mo ≡ pos m.month → d ≡ pos m.day → h ≡ pos m.hour → mi ≡ pos m.minute → s ≡ pos m.second → ns ≡ pos (m.milli * 1_000_000)
    → IsDate y mo d × IsTime h mi s ns
civil_parts m v y mo d h mi s ns ye moe de he mie se nse =
    let t = time_is m v in
    rw (ye, moe, de, he, mie, se, nse) (
      (omega (arith, signed_arith, t.1), omega (arith, signed_arith, t.0.first_month, t.0.month), omega (arith, signed_arith, t.0.first_day, t.0.day)),
      (omega (arith, signed_arith, t.0.hour), omega (arith, signed_arith, t.0.minute), omega (arith, signed_arith, t.0.second), omega (arith, signed_arith, t.0.milli)),
    )
