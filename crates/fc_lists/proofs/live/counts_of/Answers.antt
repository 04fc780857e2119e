use Rattle.std.proofs.Common.{◌*◌, ◌∙◌, length, arith}
use Rattle.std.proofs.lemmas.List.Sums.{count_by-le-length}
use Rattle.fc_lists.proofs.KeptCounts.{bits_are, kept_before-most}
use Rattle.fc_lists.proofs.live.counts_of.Goals as goal

pub bits_before-requires : goal.bits_before-requires
bits_before-requires c =
    let words = c.words.result.now in
    let size = c.len-len.ensures in
    omega (arith, size, count_by-le-length (λ here. here) c.args.live.now, bits_are words c.args.live.now c.words.ensures.bits (64 * length words), kept_before-most c.args.live.now (64 * length words))

pub returns : goal.returns
returns c =
    let words = c.words.result.now in
    record {
      enough = omega (arith, c.in_ok-counts.ensures.len, c.words.ensures.count);
      counted = λ i within. c.in_ok-counts.ensures.counts i (omega (arith, c.words.ensures.count, within)) ∙ bits_are words c.args.live.now c.words.ensures.bits (64 * i);
    }
