use Rattle.std.proofs.Common.{◌≡◌, length, get_or, replicate, refl, subst, arith, rules}
use Rattle.std.proofs.lemmas.List.{take_all}
use Rattle.fc_lists.proofs.Marks.{Marked, marked_none, marked_more}
use Rattle.fc_lists.proofs.bits.mark.Goals as goal

pub loop-at-init : goal.loop-at-init
loop-at-init c =
    let zeros : c.fill.new.self ≡ replicate (length c.args.words.now) 0 = search rules in
    marked_none c.fill.new.self (length c.args.words.now) zeros

pub loop-at-preserved : goal.loop-at-preserved
loop-at-preserved c =
    let positions = c.args.positions.now in
    let i = c.loop-at.at-index in
    let below = c.requires i 0 c.loop-at-test.true in
    marked_more c.loop-at.words positions i (get_or positions i 0) c.loop-at-test.true refl (omega (arith, below)) c.loop-at.invariant

pub returns : goal.returns
returns c = subst (Marked c.loop-at.words) (take_all c.loop-at.at-index c.args.positions.now (omega arith)) c.loop-at.invariant
