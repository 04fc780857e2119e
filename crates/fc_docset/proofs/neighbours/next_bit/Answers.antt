use Rattle.std.proofs.Common.{◌<◌, arith}
use Rattle.fc_docset.proofs.WordNeighbours.{next_in_word, none_in_word, none_in_words, below_64}
use Rattle.fc_docset.proofs.neighbours.next_bit.Goals as goal

pub overflow_add-result : goal.overflow_add-result
overflow_add-result c =
    let word = (c.type_inv.words c.loop-at.at).fits in
    let small : c.in-Some.bit < 64 = below_64 _ c.in-Some.bit word c.in-Some.ensures.member in
    record { fits = omega arith }

pub returns-in-Some : goal.returns-in-Some
returns-in-Some c = next_in_word c.args.words.now c.args.from c.loop-at.at c.loop-at.low c.in-Some.bit c.loop-at.invariant (c.type_inv.words c.loop-at.at).fits c.in-Some.ensures

pub loop-at-preserved : goal.loop-at-preserved
loop-at-preserved c = none_in_word c.args.words.now c.args.from c.loop-at.at c.loop-at.low c.loop-at.invariant (λ k low. c.in_default.ensures k low)

pub returns : goal.returns
returns c = none_in_words c.args.words.now c.args.from c.loop-at.at c.loop-at.low c.loop-at.invariant c.loop-at-test.false
