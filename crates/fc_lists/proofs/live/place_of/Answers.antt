use Rattle.std.proofs.Common.{Some, None, cond, ◌*◌, ◌∙◌, sym, ap₂, arith}
use Rattle.fc_lists.proofs.KeptCounts.{bits_are}
use Rattle.fc_lists.proofs.live.place_of.Goals as goal

pub rank-requires-clause-before : goal.rank-requires-clause-before
rank-requires-clause-before c = λ i within.
    c.requires.counted i (omega (arith, c.words.ensures.count)) ∙ sym (bits_are c.words.result.now c.args.live.now c.words.ensures.bits (64 * i))

pub returns : goal.returns
returns c = c.rank.ensures ∙ ap₂ (λ b n. cond b (Some n) None) (c.words.ensures.bits c.args.at) (bits_are c.words.result.now c.args.live.now c.words.ensures.bits c.args.at)
