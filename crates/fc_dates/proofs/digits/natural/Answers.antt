use Rattle.std.proofs.Common.{◌<◌, rules, arith}
use Rattle.std.proofs.Math.Nat.{pow-le-pow_right}
use Rattle.fc_dates.proofs.digits.natural.Goals as goal

pub overflow_mul-number : goal.overflow_mul-number
overflow_mul-number c =
    let most = pow-le-pow_right {n = 10} (omega arith) {i = c.loop-digit.digit-index} {j = 8} (omega (arith, c.requires, c.loop-digit-test.true)) in
    omega (arith, most, c.loop-digit.invariant.2)

pub overflow_add-number : goal.overflow_add-number
overflow_add-number c =
    let most = pow-le-pow_right {n = 10} (omega arith) {i = c.loop-digit.digit-index} {j = 8} (omega (arith, c.requires, c.loop-digit-test.true)) in
    let small : c.from.result < 256 = search rules in
    omega (arith, most, small, c.loop-digit.invariant.2)
