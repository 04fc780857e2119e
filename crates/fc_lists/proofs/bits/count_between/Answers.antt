use Rattle.std.proofs.Common.{◌≡◌, ◌+◌, ◌*◌, ◌/◌, ap, arith}
use Rattle.fc_lists.specs.Ranks.{bits_below}
use Rattle.fc_lists.proofs.BitRanks.{bits_below-word, bits_below-le, bits_below_mono}
use Rattle.fc_lists.proofs.bits.count_between.Goals as goal

pub overflow_add-count : goal.overflow_add-count
overflow_add-count c =
    let words = c.args.words.now in
    let at = c.loop-at.at in
    let inside = c.loop-at-test.true in
    let next = bits_below-word words at (omega (arith, c.type_inv.words at)) in
    let order = c.loop-at.auto.at-end in
    record { fits = omega (arith, next, c.loop-at.invariant, bits_below_mono words (64 * (at + 1)) (64 * (c.args.to / 64)) (omega arith), bits_below-le c.args.to words) }

pub loop-at-preserved : goal.loop-at-preserved
loop-at-preserved c =
    let next = bits_below-word c.args.words.now c.loop-at.at (omega (arith, c.type_inv.words c.loop-at.at)) in
    omega (arith, next, c.loop-at.invariant)

pub overflow_sub-result : goal.overflow_sub-result
overflow_sub-result c =
    let words = c.args.words.now in
    let last : c.loop-at.at ≡ c.args.to / 64 = omega arith in
    omega (arith, ap (λ n. bits_below (64 * n) words) last, c.loop-at.invariant, c.low_ones.ensures, bits_below_mono words c.args.from c.args.to c.requires.order)

pub returns : goal.returns
returns c =
    let words = c.args.words.now in
    let last : c.loop-at.at ≡ c.args.to / 64 = omega arith in
    omega (arith, ap (λ n. bits_below (64 * n) words) last, c.loop-at.invariant, c.low_ones.ensures, bits_below_mono words c.args.from c.args.to c.requires.order)
