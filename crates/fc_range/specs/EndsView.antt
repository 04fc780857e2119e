-- The ends of gaps.
use Rattle.std.specs.Prelude.{ℕ, ℤ}
use Rattle.fc_spec.specs.requests.Gaps.{high_end, low_end}
use Rattle.fc_spec.specs.requests.Request.{Range}
use Rattle.fc_range.specs.declared.ends.GapEnds.{GapEnds}

-- the low end and the high end
abbrev pub ends_view : GapEnds → ℤ × ℤ
ends_view e = (e.low, e.high)

abbrev pub ends_of : Range → ℕ → ℤ × ℤ
ends_of g i = (low_end g i, high_end g i)
