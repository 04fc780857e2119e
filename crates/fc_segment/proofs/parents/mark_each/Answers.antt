use Rattle.std.proofs.Common.{◌≡◌, ◌≤◌, ◌+◌, ◌∙◌, ◌++◌, ◌∷◌, [], length, map, take, ap, ap₂, sym, append_assoc, length-append, arith}
use Rattle.std.proofs.lemmas.List.{append-nil, length-take-le, take_all}
use Rattle.fc_spec.specs.documents.Operations.{blocks_added}
use Rattle.fc_spec.specs.documents.Totals.{document_total}
use Rattle.fc_docs.specs.View.{op_view}
use Rattle.fc_segment.specs.Begun.{begun}
use Rattle.fc_segment.specs.Parents.{parents_in}
use Rattle.fc_segment.proofs.AddedBlocks.{added_before, parents_more, total_few, total_more}
use Rattle.fc_segment.proofs.Begun.{begun_itself, length-begun, take-begun}
use Rattle.fc_segment.proofs.Cutting.{length-parents_in}
use Rattle.fc_segment.proofs.parents.mark_each.Goals as goal

pub loop-op-init : goal.loop-op-init
loop-op-init c = record {
  place = omega arith;
  parents = c.requires.begun ∙ ap (begun (length c.args.parents.now)) (sym (append-nil (take c.args.from c.args.parents.now)));
}

pub mark-next-requires : goal.mark-next-requires
mark-next-requires c =
    let ops = c.args.ops.now in
    let old = c.args.parents.now in
    let i = c.loop-op.op-index in
    let before = parents_in (added_before ops i) in
    let marks = take c.args.from old ++ before in
    let few = total_few ops i c.op-item.result c.loop-op-test.true c.op-item.is in
    let size : length marks ≡ c.args.from + document_total (added_before ops i) =
    length-append (take c.args.from old) before ∙ ap₂ (λ m n. m + n) (length-take-le c.args.from old (omega (arith, c.requires.room))) (length-parents_in (added_before ops i)) in
    let first : c.loop-op.next ≡ length marks = omega (arith, size, c.loop-op.invariant.place) in
    let within : length marks ≤ length old = omega (arith, size, few, c.requires.room) in
    record {
      room = omega (arith, ap length c.loop-op.invariant.parents, length-begun (length old) marks within, few, c.loop-op.invariant.place, c.requires.room);
      begun = begun_itself marks c.loop-op.parents (length old) c.loop-op.next c.loop-op.invariant.parents first within;
    }

pub loop-op-preserved : goal.loop-op-preserved
loop-op-preserved c =
    let ops = c.args.ops.now in
    let old = c.args.parents.now in
    let i = c.loop-op.op-index in
    let op = c.op-item.result in
    let start = take c.args.from old in
    let before = parents_in (added_before ops i) in
    let marks = start ++ before in
    let here = parents_in (blocks_added (op_view op ∷ [])) in
    let few = total_few ops i op c.loop-op-test.true c.op-item.is in
    let size : length marks ≡ c.args.from + document_total (added_before ops i) =
    length-append start before ∙ ap₂ (λ m n. m + n) (length-take-le c.args.from old (omega (arith, c.requires.room))) (length-parents_in (added_before ops i)) in
    let first : c.loop-op.next ≡ length marks = omega (arith, size, c.loop-op.invariant.place) in
    let within : length marks ≤ length old = omega (arith, size, few, c.requires.room) in
    let more = total_more ops i op c.loop-op-test.true c.op-item.is in
    record {
      place = omega (arith, c.mark-next.ensures.next, c.loop-op.invariant.place, more);
      parents = c.mark-next.ensures.parents
          ∙ ap₂ (λ n l. begun n (l ++ here)) (ap length c.loop-op.invariant.parents ∙ length-begun (length old) marks within)
          (ap (take c.loop-op.next) c.loop-op.invariant.parents ∙ take-begun (length old) c.loop-op.next marks first)
          ∙ ap (begun (length old)) (append_assoc start before here ∙ ap (λ l. start ++ l) (sym (parents_more ops i op c.loop-op-test.true c.op-item.is)));
    }

pub returns-clause-parents : goal.returns-clause-parents
returns-clause-parents c =
    let ops = c.args.ops.now in
    c.loop-op.invariant.parents
    ∙ ap (λ l. begun (length c.args.parents.now) (take c.args.from c.args.parents.now ++ parents_in (blocks_added (map op_view l)))) (take_all c.loop-op.op-index ops (omega arith))

pub returns-clause-next : goal.returns-clause-next
returns-clause-next c =
    c.loop-op.invariant.place ∙ ap (λ l. c.args.from + document_total (blocks_added (map op_view l))) (take_all c.loop-op.op-index c.args.ops.now (omega arith))
