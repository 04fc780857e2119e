-- Gaps lie between the ends of their range.
use Rattle.std.proofs.Common.{◌≡◌, ℕ, ◌+◌, ◌*◌, ◌^◌, ◌<◌, ◌≤◌, ℤ, pos, negsuc, ◌*ℤ◌, ◌<ℤ◌, refl, arith}
use Rattle.std.specs.Prelude.{unsigned_abs}
use Rattle.std.specs.Int.{div_ceil}
use Rattle.std.proofs.lemmas.Grind.{div_ceil_times}
use Rattle.std.proofs.lemmas.Int.{ints}
use Rattle.std.proofs.Math.Nat.{mul-le-mul_right}
use Rattle.fc_spec.specs.documents.Schema.{Schema}
use Rattle.fc_spec.specs.requests.Request.{Range}
use Rattle.fc_spec.specs.requests.ValidRequests.{IsValidRange}
use Rattle.fc_facet.specs.RangeGaps.{HasFewGaps}

pub has_few_gaps : (s : Schema) (g : Range) → IsValidRange s g → HasFewGaps g
has_few_gaps s g valid = record { ordered = valid.ordered; forward = valid.forward; few = valid.few }

-- the low end of a gap below their number is within the width
pub below_width : (i step width : ℕ) → 0 < step → i < div_ceil width step → i * step < width
below_width i step width some below =
    let ends = div_ceil_times width step some in
    let least = mul-le-mul_right step below in
    omega (arith, ends.1, least)

pub product_is : (i : ℕ) (gap : ℤ) → pos 0 <ℤ gap → pos (i * unsigned_abs gap) ≡ pos i *ℤ gap
product_is i (pos n) forward = refl
product_is i (negsuc n) forward = omega (arith, ints)

pub some_step : (gap : ℤ) → pos 0 <ℤ gap → 0 < unsigned_abs gap
some_step (pos n) forward = omega (arith, ints)
some_step (negsuc n) forward = omega (arith, ints)

pub product_small : (a b : ℕ) → a < 2 ^ 32 → b ≤ 2 ^ 63 → a * b < 2 ^ 96
product_small a b first second = grind arith

-- all gaps together are less than one gap wider than the range
pub whole_width : (width step : ℕ) → 0 < step → div_ceil width step * step < width + step
whole_width width step some = (div_ceil_times width step some).1
