use Rattle.std.proofs.Common.{◌*◌, ◌%◌, ◌^◌, ap₂, bit_or, ◌∙◌, arith, to_z-of_z}
use Rattle.fc_lane.specs.Between.{is_outside}
use Rattle.fc_lane.proofs.MaskBits.{joined_masks}
use Rattle.fc_lane.proofs.between.outside_of_half.Goals as goal

pub returns : goal.returns
returns c =
    let lo = c.ranges.lo in
    let hi = c.ranges.hi in
    let low = simp to_z-of_z at c.outside_of_quarter-low.ensures in
    let high = simp to_z-of_z at c.outside_of_quarter-high.ensures in
    ap₂ (λ a b. bit_or a (b * 2 ^ 16 % 2 ^ 64)) low high
    ∙ joined_masks (is_outside c.args.lo c.args.hi) c.args.values.now c.args.at 16 (omega (arith, c.requires.within)) (λ m small. omega arith)
