use Rattle.std.proofs.Common.{◌≡◌, ◌≤◌, ◌+◌, ◌∙◌, ◌++◌, length, map, replicate, take, false, [], refl, ap, ap₂, sym, arith}
use Rattle.std.proofs.lemmas.List.{length-replicate, take_all}
use Rattle.fc_spec.specs.documents.Operations.{blocks_added}
use Rattle.fc_spec.specs.documents.Totals.{document_total}
use Rattle.fc_spec.specs.words.Lists.{joined}
use Rattle.fc_docs.specs.View.{batch_view, op_view}
use Rattle.fc_segment.specs.Begun.{begun}
use Rattle.fc_segment.specs.Parents.{parents_in}
use Rattle.fc_segment.proofs.AddedBatches.{batch_few, batch_parents, batch_total, none_begun, ops_before, whole_begun}
use Rattle.fc_segment.proofs.Begun.{begun_itself, length-begun, take-begun}
use Rattle.fc_segment.proofs.Cutting.{length-parents_in}
use Rattle.fc_segment.proofs.parents.parents_of_batches.Goals as goal

pub loop-batch-init : goal.loop-batch-init
loop-batch-init c =
    let total = document_total (blocks_added (joined (map batch_view c.args.batches.now))) in
    let empty = c.in_ok-parents.ensures ∙ ap (λ n. replicate n false) c.document_count_of.ensures in
    record {
      place = omega arith;
      parents = none_begun total c.in_ok-parents.parents empty ∙ ap (λ n. begun n []) (ap length empty ∙ length-replicate total false);
    }

pub mark_each-next-requires : goal.mark_each-next-requires
mark_each-next-requires c =
    let batches = c.args.batches.now in
    let i = c.loop-batch.batch-index in
    let total = document_total (blocks_added (joined (map batch_view batches))) in
    let marks = parents_in (blocks_added (ops_before batches i)) in
    let few = batch_few batches i c.batch-item.result c.loop-batch-test.true c.batch-item.is in
    let same = ap (λ l. document_total (blocks_added (map op_view l))) c.deref.ensures.value in
    let size = length-parents_in (blocks_added (ops_before batches i)) in
    let first : c.loop-batch.next ≡ length marks = omega (arith, size, c.loop-batch.invariant.place) in
    let within : length marks ≤ total = omega (arith, size, few) in
    record {
      room = omega (arith, ap length c.loop-batch.invariant.parents, length-begun total marks within, few, same, c.loop-batch.invariant.place);
      begun = begun_itself marks c.loop-batch.parents total c.loop-batch.next c.loop-batch.invariant.parents first within;
    }

pub loop-batch-preserved : goal.loop-batch-preserved
loop-batch-preserved c =
    let batches = c.args.batches.now in
    let i = c.loop-batch.batch-index in
    let batch = c.batch-item.result in
    let marks = parents_in (blocks_added (ops_before batches i)) in
    let here = parents_in (blocks_added (batch_view batch)) in
    let total = document_total (blocks_added (joined (map batch_view batches))) in
    let few = batch_few batches i batch c.loop-batch-test.true c.batch-item.is in
    let more = batch_total batches i batch c.loop-batch-test.true c.batch-item.is in
    let same = ap (λ l. document_total (blocks_added (map op_view l))) c.deref.ensures.value in
    let size = length-parents_in (blocks_added (ops_before batches i)) in
    let first : c.loop-batch.next ≡ length marks = omega (arith, size, c.loop-batch.invariant.place) in
    let within : length marks ≤ total = omega (arith, size, few) in
    record {
      place = omega (arith, c.mark_each-next.ensures.next, c.loop-batch.invariant.place, more, same);
      parents = c.mark_each-next.ensures.parents
          ∙ ap (λ l. begun (length c.loop-batch.parents) (take c.loop-batch.next c.loop-batch.parents ++ parents_in (blocks_added (map op_view l)))) c.deref.ensures.value
          ∙ ap₂ (λ n l. begun n (l ++ here)) (ap length c.loop-batch.invariant.parents ∙ length-begun total marks within)
          (ap (take c.loop-batch.next) c.loop-batch.invariant.parents ∙ take-begun total c.loop-batch.next marks first)
          ∙ ap (begun total) (sym (batch_parents batches i batch c.loop-batch-test.true c.batch-item.is));
    }

pub returns : goal.returns
returns c =
    let batches = c.args.batches.now in
    let blocks = blocks_added (joined (map batch_view batches)) in
    let all = ap (λ l. parents_in (blocks_added (joined (map batch_view l)))) (take_all c.loop-batch.batch-index batches (omega arith)) in
    c.loop-batch.invariant.parents ∙ ap (begun (document_total blocks)) all ∙ whole_begun blocks (document_total blocks) refl
