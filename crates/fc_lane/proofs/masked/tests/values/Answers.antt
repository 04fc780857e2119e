use Rattle.std.proofs.Common.{◌≤◌, ◌<◌, ◌*◌, ◌%◌, length, pos, arith, ◌∙◌, length-set, w64, to_z, of_z}
use Rattle.std.specs.Prelude.{nat_abs, ◌-ℤ◌}
use Rattle.std.proofs.lemmas.Int.{ints}
use Rattle.std.proofs.lemmas.List.Sums.{sum_by-set}
use Rattle.fc_lane.proofs.masked.tests.values.Goals as goal

pub loop-at-preserved : goal.loop-at-preserved
loop-at-preserved c =
    let values = c.loop-at.values in
    let at = c.loop-at.at in
    let value = to_z w64 (of_z w64 (to_z w64 (37 * at % 101) -ℤ pos 50)) in
    let small : nat_abs value ≤ 50 = omega (arith, ints) in
    let within : at < length values = omega arith in
    let step = sum_by-set nat_abs values at value (pos 0) within in
    record { long = length-set values at value ∙ c.loop-at.invariant.long; small = omega arith }
