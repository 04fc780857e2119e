use Rattle.std.proofs.Common.{◌≡◌, length, replicate, sym, ap, ◌∙◌, pos, rules, arith}
use Rattle.std.proofs.lemmas.Int.{ints}
use Rattle.std.specs.Prelude.{◌<ℤ◌}
use Rattle.fc_spec.specs.documents.Bits.{has_bit}
use Rattle.fc_spec.proofs.documents.WordBits.{has_bit_of_zeros}
use Rattle.fc_lane.specs.Between.{is_between}
use Rattle.fc_lane.proofs.MaskBits.{none_passes}
use Rattle.fc_lane.proofs.TurnedOrder.{none_between}
use Rattle.fc_lane.proofs.between.mask_between.Goals as goal

pub returns-else-lo-hi : goal.returns-else-lo-hi
returns-else-lo-hi c =
    let lo = c.args.lo in
    let hi = c.args.hi in
    let zeros : c.fill.new.self ≡ replicate (length c.args.out.now) 0 = search rules in
    let wrong : hi <ℤ lo = omega (arith, ints) in
    λ at. ap (λ l. has_bit l at) zeros ∙ has_bit_of_zeros (length c.args.out.now) at ∙ sym (none_passes (is_between lo hi) (λ x. none_between lo hi x wrong) (pos 0) c.args.values.now at)
