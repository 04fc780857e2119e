use Rattle.std.proofs.Common.{◌∙◌, ap, map, arith, to_z-of_z}
use Rattle.std.specs.Simd.Lanes.{mask_l}
use Rattle.fc_lane.specs.Between.{is_between}
use Rattle.fc_lane.proofs.MaskBits.{chunk_of_few}
use Rattle.fc_lane.proofs.between.word_from.Goals as goal

pub returns-else-values-at-ge64 : goal.returns-else-values-at-ge64
returns-else-values-at-ge64 c =
    let lo = c.ranges.lo in
    let hi = c.ranges.hi in
    let is = simp to_z-of_z at c.word_of_few.ensures in
    is ∙ ap (λ xs. mask_l (map (is_between c.args.lo c.args.hi) xs)) (chunk_of_few (is_between c.args.lo c.args.hi) c.args.values.now c.args.at (omega arith))
