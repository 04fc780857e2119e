use Rattle.std.proofs.Common.{◌<◌, ◌^◌, subst, sym, arith}
use Rattle.fc_docset.specs.Neighbours.{IsNextFrom, HasNoneFrom, is_one}
use Rattle.fc_docset.proofs.BitsInBoth.{in_both, length-in_both, get_or-in_both, fits_in_both, has_bit-in_both, next_of_same, none_of_same}
use Rattle.fc_docset.proofs.WordNeighbours.{next_in_word, none_in_word, none_in_words, below_64}
use Rattle.fc_docset.proofs.neighbours.next_in_both.Goals as goal

pub overflow_add-result : goal.overflow_add-result
overflow_add-result c =
    let word = fits_in_both c.args.words.now c.args.others.now c.loop-at.at (c.type_inv.words c.loop-at.at).fits in
    let small : c.in-Some.bit < 64 = below_64 _ c.in-Some.bit word c.in-Some.ensures.member in
    record { fits = omega arith }

pub returns-in-Some : goal.returns-in-Some
returns-in-Some c =
    let words = c.args.words.now in
    let others = c.args.others.now in
    let at = c.loop-at.at in
    let word = get_or-in_both words others at (omega arith) in
    let fits = fits_in_both words others at (c.type_inv.words at).fits in
    next_of_same _ _ (has_bit-in_both words others) c.args.from _
    (next_in_word (in_both words others) c.args.from at c.loop-at.low c.in-Some.bit c.loop-at.invariant
    (subst (λ w. w < 2 ^ 64) (sym word) fits) (subst (λ w. IsNextFrom (is_one w) c.loop-at.low c.in-Some.bit) (sym word) c.in-Some.ensures))

pub loop-at-preserved : goal.loop-at-preserved
loop-at-preserved c =
    let words = c.args.words.now in
    let others = c.args.others.now in
    let at = c.loop-at.at in
    let word = get_or-in_both words others at (omega arith) in
    none_in_word (in_both words others) c.args.from at c.loop-at.low c.loop-at.invariant
    (subst (λ w. HasNoneFrom (is_one w) c.loop-at.low) (sym word) (λ k low. c.in_default.ensures k low))

pub returns : goal.returns
returns c =
    let words = c.args.words.now in
    let others = c.args.others.now in
    none_of_same _ _ (has_bit-in_both words others) c.args.from
    (none_in_words (in_both words others) c.args.from c.loop-at.at c.loop-at.low c.loop-at.invariant (omega (arith, length-in_both words others)))
