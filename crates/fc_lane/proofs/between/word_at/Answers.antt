use Rattle.std.proofs.Common.{◌-◌, ◌*◌, ◌%◌, ◌^◌, ap, ap₂, bit_or, ◌∙◌, arith, to_z-of_z}
use Rattle.std.specs.Simd.Lanes.{chunk}
use Rattle.std.proofs.lemmas.Simd.{length-chunk}
use Rattle.fc_lane.specs.Between.{is_between, is_outside}
use Rattle.fc_lane.proofs.MaskBits.{joined_masks, word_of_opposite}
use Rattle.fc_lane.proofs.between.word_at.Goals as goal

pub returns : goal.returns
returns c =
    let lo = c.ranges.lo in
    let hi = c.ranges.hi in
    let values = c.args.values.now in
    let low = simp to_z-of_z at c.outside_of_half-low.ensures in
    let high = simp to_z-of_z at c.outside_of_half-high.ensures in
    ap (λ word. 2 ^ 64 - 1 - word) (ap₂ (λ a b. bit_or a (b * 2 ^ 32 % 2 ^ 64)) low high
    ∙ joined_masks (is_outside c.args.lo c.args.hi) values c.args.at 32 (omega (arith, c.requires.within)) (λ m small. omega arith))
    ∙ word_of_opposite (is_between c.args.lo c.args.hi) (chunk c.args.at 64 values) (length-chunk c.args.at 64 values c.requires.within)
