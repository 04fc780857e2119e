use Rattle.std.proofs.Common.{◌&&◌, ◌||◌, nat_le, nat_lt, length, false, sym, ap, ap₂, ◌∙◌, arith}
use Rattle.std.proofs.lemmas.List.{length-set}
use Rattle.fc_spec.specs.documents.Sets.{zip_with}
use Rattle.fc_docset.specs.Positions.{contains}
use Rattle.fc_segment.proofs.BlockMarks.{in_block}
use Rattle.fc_segment.proofs.Cutting.{length-parents_in}
use Rattle.fc_domain.proofs.BlockLoops.{none_spread, spread_within, one_spread, all_spread}
use Rattle.fc_domain.proofs.blocks.spread.Goals as goal

pub and_with-requires : goal.and_with-requires
and_with-requires c = c.requires ∙ sym (length-parents_in c.args.segment.now.blocks) ∙ ap length (sym c.parents.ensures)

pub loop-parent-init : goal.loop-parent-init
loop-parent-init c =
    none_spread c.args.segment.now.blocks c.args.into.now c.and_with.new.self c.requires
    (c.and_with.ensures ∙ ap (zip_with ◌&&◌ c.args.into.now) c.parents.ensures)

pub add_range-requires-clause-ordered : goal.add_range-requires-clause-ordered
add_range-requires-clause-ordered c =
    let within = spread_within c.args.segment.now.blocks c.args.into.now c.loop-parent.into c.loop-parent.from c.loop-parent.invariant c.in-Some.parent c.in-Some.ensures.found in
    let b = in_block c.args.segment.now.blocks c.in-Some.parent within in
    omega (arith, b.first, c.first_child-first.ensures)

pub overflow_add-from : goal.overflow_add-from
overflow_add-from c =
    let within = spread_within c.args.segment.now.blocks c.args.into.now c.loop-parent.into c.loop-parent.from c.loop-parent.invariant c.in-Some.parent c.in-Some.ensures.found in
    record { fits = omega (arith, c.loop-parent.invariant.size, c.next_from.ensures.small) }

pub loop-parent-preserved : goal.loop-parent-preserved
loop-parent-preserved c =
    let at = c.in-Some.parent in
    one_spread c.args.segment.now.blocks c.args.into.now c.loop-parent.into c.loop-parent.from c.loop-parent.invariant at c.add_range.new.self c.in-Some.ensures.found
    (record {
      size = c.add_range.ensures.length ∙ ap length c.remove.ensures ∙ length-set c.loop-parent.into at false;
      is = λ k. c.add_range.ensures.set k
          ∙ ap₂ (λ set first. contains set k || (nat_le first k && nat_lt k at)) c.remove.ensures c.first_child-first.ensures;
    })

pub returns-clause-set : goal.returns-clause-set
returns-clause-set c =
    all_spread c.args.segment.now.blocks c.args.into.now c.loop-parent.into c.loop-parent.from c.loop-parent.invariant
    (λ k low. c.in_default.ensures.found k low)

pub returns-clause-length : goal.returns-clause-length
returns-clause-length c = c.loop-parent.invariant.size ∙ sym c.requires
