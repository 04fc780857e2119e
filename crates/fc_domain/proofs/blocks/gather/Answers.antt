use Rattle.std.proofs.Common.{◌+◌, length, set, true, sym, ap, ◌∙◌, subst, arith}
use Rattle.fc_segment.specs.BlockPositions.{parent_in_block}
use Rattle.fc_segment.proofs.BlockMarks.{in_block}
use Rattle.fc_domain.proofs.BlockLoops.{AreGatheredTo, none_gathered, gathered_within, one_gathered, all_gathered}
use Rattle.fc_domain.proofs.blocks.gather.Goals as goal

pub loop-at-init : goal.loop-at-init
loop-at-init c = none_gathered c.args.segment.now.blocks c.args.docs.now c.clear.new.self (length c.args.into.now) c.requires.docs c.requires.length c.clear.ensures

pub parent_of-parent-requires : goal.parent_of-parent-requires
parent_of-parent-requires c = gathered_within c.args.segment.now.blocks c.args.docs.now c.loop-at.into c.loop-at.from c.loop-at.invariant c.in-Some.at c.in-Some.ensures.found

pub add-requires : goal.add-requires
add-requires c =
    let within = gathered_within c.args.segment.now.blocks c.args.docs.now c.loop-at.into c.loop-at.from c.loop-at.invariant c.in-Some.at c.in-Some.ensures.found in
    let b = in_block c.args.segment.now.blocks c.in-Some.at within in
    omega (arith, b.within, c.parent_of-parent.ensures, c.loop-at.invariant.size)

pub overflow_add-from : goal.overflow_add-from
overflow_add-from c =
    let within = gathered_within c.args.segment.now.blocks c.args.docs.now c.loop-at.into c.loop-at.from c.loop-at.invariant c.in-Some.at c.in-Some.ensures.found in
    let b = in_block c.args.segment.now.blocks c.in-Some.at within in
    record { fits = omega (arith, b.within, c.parent_of-parent.ensures, c.loop-at.invariant.whole, c.next_from.ensures.small) }

pub loop-at-preserved : goal.loop-at-preserved
loop-at-preserved c =
    let blocks = c.args.segment.now.blocks in
    let docs = c.args.docs.now in
    let at = c.in-Some.at in
    let is = c.in-Some.ensures.found in
    let parent = c.parent_of-parent.ensures in
    subst (λ n. AreGatheredTo blocks docs c.add.new.self (n + 1)) (sym parent)
    (subst (λ into. AreGatheredTo blocks docs into (parent_in_block blocks at + 1)) (sym (c.add.ensures ∙ ap (λ n. set c.loop-at.into n true) parent))
    (one_gathered blocks docs c.loop-at.into c.loop-at.from c.loop-at.invariant at is))

pub loop-at-smaller : goal.loop-at-smaller
loop-at-smaller c =
    let is = c.in-Some.ensures.found in
    let within = gathered_within c.args.segment.now.blocks c.args.docs.now c.loop-at.into c.loop-at.from c.loop-at.invariant c.in-Some.at is in
    let b = in_block c.args.segment.now.blocks c.in-Some.at within in
    omega (arith, b.within, b.parent, is.behind, c.parent_of-parent.ensures)

pub returns-clause-set : goal.returns-clause-set
returns-clause-set c =
    all_gathered c.args.segment.now.blocks c.args.docs.now c.loop-at.into c.loop-at.from c.loop-at.invariant (λ k low. c.in_default.ensures.found k low)

pub returns-clause-length : goal.returns-clause-length
returns-clause-length c = c.loop-at.invariant.size ∙ sym c.requires.length
