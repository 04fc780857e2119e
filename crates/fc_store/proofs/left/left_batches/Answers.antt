use Rattle.std.proofs.Common.{◌≡◌, ◌+◌, ◌++◌, List, ◌∷◌, [], drop, map, sym, ap, ◌∙◌, arith}
use Rattle.std.proofs.lemmas.List.{append-nil, nil_from_length}
use Rattle.fc_spec.specs.documents.Live.{live_in}
use Rattle.fc_spec.specs.documents.Operations.{blocks_added}
use Rattle.fc_spec.specs.documents.Totals.{document_total}
use Rattle.fc_spec.specs.words.Lists.{joined}
use Rattle.fc_docs.specs.declared.block.Batch.{Batch}
use Rattle.fc_docs.specs.View.{batch_view}
use Rattle.fc_store.proofs.LeftBatches.{left_front, left_more, total-front}
use Rattle.fc_store.proofs.left.left_batches.Goals as goal

next_total : (left : List Batch) (batch : Batch) (behind : List Batch) → left ≡ batch ∷ behind
    → document_total (blocks_added (joined (map batch_view left))) ≡ document_total (blocks_added (batch_view batch)) + document_total (blocks_added (joined (map batch_view behind)))
next_total left batch behind is = ap (λ l. document_total (blocks_added (joined (map batch_view l)))) is ∙ total-front (batch_view batch) (joined (map batch_view behind))

pub left_batch-requires : goal.left_batch-requires
left_batch-requires c =
    let next = next_total c.loop-batch.batch-iterator.rest.items c.in-Some.batch c.next.new.self.rest.items c.in-Some.ensures.steps.0 in
    omega (arith, next, c.loop-batch.invariant.at)

pub loop-batch-preserved : goal.loop-batch-preserved
loop-batch-preserved c =
    let left = c.args.left.now in
    let batch = c.in-Some.batch in
    let steps = c.in-Some.ensures.steps.0 in
    let behind = joined (map batch_view c.next.new.self.rest.items) in
    let next = next_total c.loop-batch.batch-iterator.rest.items batch c.next.new.self.rest.items steps in
    let made = c.loop-batch.made.items in
    let at = c.loop-batch.at in
    let end = c.in_ok-only.end in
    let blocks = live_in (blocks_added (batch_view batch)) (drop at left) in
    let others = live_in (blocks_added behind) (drop end left) in
    record {
      at = omega (arith, next, c.loop-batch.invariant.at, c.in_ok-only.ensures.end);
      kept = ap (λ bs. blocks_added (joined (map batch_view bs)) ++ others) c.in_ok-push.ensures.items
          ∙ left_more made c.in_ok-only.only blocks others c.in_ok-only.ensures.only
          ∙ ap (λ l. blocks_added (joined (map batch_view made)) ++ l) (sym (left_front (batch_view batch) behind left at end c.in_ok-only.ensures.end))
          ∙ ap (λ bs. blocks_added (joined (map batch_view made)) ++ live_in (blocks_added (joined (map batch_view bs))) (drop at left)) (sym steps)
          ∙ c.loop-batch.invariant.kept;
    }

pub returns : goal.returns
returns c =
    let left = c.loop-batch.batch-iterator.rest in
    let none : left.items ≡ [] = nil_from_length left.items (sym left.ok.0 ∙ c.in-None.ensures.steps.0) in
    let made = blocks_added (joined (map batch_view c.loop-batch.made.items)) in
    sym (append-nil made)
    ∙ ap (λ bs. made ++ live_in (blocks_added (joined (map batch_view bs))) (drop c.loop-batch.at c.args.left.now)) (sym none)
    ∙ c.loop-batch.invariant.kept
