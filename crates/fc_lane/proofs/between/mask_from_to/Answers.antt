use Rattle.std.proofs.Common.{arith, to_z-of_z}
use Rattle.fc_lane.specs.Between.{is_between}
use Rattle.fc_lane.proofs.MaskBits.{words_of_tests}
use Rattle.fc_lane.proofs.between.mask_from_to.Goals as goal

pub returns : goal.returns
returns c =
    let lo = c.ranges.lo in
    let hi = c.ranges.hi in
    let made = simp to_z-of_z at c.loop-word.invariant.made in
    words_of_tests (is_between c.args.lo c.args.hi) c.args.values.now c.loop-word.out (omega (arith, c.requires.room)) (λ k within. made k (omega arith))
