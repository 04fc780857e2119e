use Rattle.std.proofs.Common.{◌≡◌, ◌+◌, ◌-◌, subst, arith}
use Rattle.fc_docset.proofs.WordNeighbours.{AreNoneBehind, last_in_word, none_in_word_behind}
use Rattle.fc_docset.proofs.neighbours.last_bit.Goals as goal

pub returns-in-Some : goal.returns-in-Some
returns-in-Some c =
    let back : c.loop-at.at ≡ c.loop-at.at - 1 + 1 = omega arith in
    last_in_word c.args.words.now c.args.to (c.loop-at.at - 1) c.loop-at.high c.in-Some.bit
    (subst (λ n. AreNoneBehind c.args.words.now c.args.to n c.loop-at.high) back c.loop-at.invariant) c.in-Some.ensures

pub loop-at-preserved : goal.loop-at-preserved
loop-at-preserved c =
    let back : c.loop-at.at ≡ c.loop-at.at - 1 + 1 = omega arith in
    none_in_word_behind c.args.words.now c.args.to (c.loop-at.at - 1) c.loop-at.high
    (subst (λ n. AreNoneBehind c.args.words.now c.args.to n c.loop-at.high) back c.loop-at.invariant) (λ k low. c.in_default.ensures k low)
