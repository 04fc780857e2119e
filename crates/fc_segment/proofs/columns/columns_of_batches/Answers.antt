use Rattle.std.proofs.Common.{◌≡◌, ◌+◌, ◌++◌, List, ◌∷◌, [], length, map, All, sym, ap, ap₂, subst, ◌∙◌, append_assoc, length-append, arith}
use Rattle.std.specs.List.{range_with_len}
use Rattle.std.proofs.lemmas.List.{append-nil, length-map, nil_from_length}
use Rattle.fc_spec.specs.documents.Columns.{column_of}
use Rattle.fc_spec.specs.documents.Operations.{blocks_added}
use Rattle.fc_spec.specs.documents.Schema.{holds_texts, texts_held}
use Rattle.fc_spec.specs.documents.Totals.{documents_in}
use Rattle.fc_spec.specs.words.Lists.{joined}
use Rattle.fc_docs.specs.declared.block.Batch.{Batch}
use Rattle.fc_docs.specs.View.{batch_view}
use Rattle.fc_segment.specs.Building.{FitsTexts}
use Rattle.fc_segment.proofs.AddedBatches.{documents-front, of_back, of_front}
use Rattle.fc_segment.proofs.ValidFields.{blocks_fit}
use Rattle.fc_segment.proofs.columns.columns_of_batches.Goals as goal

-- the documents of the batches that are left, of which one comes first
next_is : (left : List Batch) (batch : Batch) (behind : List Batch) → left ≡ batch ∷ behind
    → documents_in (blocks_added (joined (map batch_view left))) ≡ documents_in (blocks_added (batch_view batch)) ++ documents_in (blocks_added (joined (map batch_view behind)))
next_is left batch behind is = ap (λ l. documents_in (blocks_added (joined (map batch_view l)))) is ∙ documents-front (batch_view batch) (joined (map batch_view behind))

pub loop-batch-init : goal.loop-batch-init
loop-batch-init c =
    let left = c.into_iter-batch-iterator.result.rest.items in
    let all = c.args.batches.items in
    let rest : left ≡ all = c.into_iter-batch-iterator.ensures.into_iter_gives.0 in
    record {
      texts = ap (λ w. w.texts) c.in_ok-columns.ensures;
      documents = ap (λ w. w.documents ++ documents_in (blocks_added (joined (map batch_view left)))) c.in_ok-columns.ensures
          ∙ ap (λ l. documents_in (blocks_added (joined (map batch_view l)))) rest;
      fit = subst (λ l. All (FitsTexts (texts_held c.args.schema.now.fields)) (documents_in (blocks_added (joined (map batch_view l))))) (sym rest)
          (blocks_fit c.args.schema.now (blocks_added (joined (map batch_view all))) c.requires.valid);
    }

pub push_batch-requires : goal.push_batch-requires
push_batch-requires c =
    let here = documents_in (blocks_added (batch_view c.in-Some.batch)) in
    let left = c.loop-batch.batch-iterator.rest.items in
    let behind = c.next.new.self.rest.items in
    let next = next_is left c.in-Some.batch behind c.in-Some.ensures.steps.0 in
    let before = c.loop-batch.columns.documents in
    let all = ap length c.loop-batch.invariant.documents in
    record {
      fit = subst (λ texts. All (FitsTexts texts) here) (sym c.loop-batch.invariant.texts)
          (of_front (FitsTexts (texts_held c.args.schema.now.fields)) here (documents_in (blocks_added (joined (map batch_view behind)))) _ next c.loop-batch.invariant.fit);
      few = omega (
        arith,
        all,
        ap length next,
        length-append before (documents_in (blocks_added (joined (map batch_view left)))),
        length-append here (documents_in (blocks_added (joined (map batch_view behind)))),
        c.requires.few,
      );
    }

pub loop-batch-preserved : goal.loop-batch-preserved
loop-batch-preserved c =
    let here = documents_in (blocks_added (batch_view c.in-Some.batch)) in
    let left = c.loop-batch.batch-iterator.rest.items in
    let others = documents_in (blocks_added (joined (map batch_view c.next.new.self.rest.items))) in
    let next = next_is left c.in-Some.batch c.next.new.self.rest.items c.in-Some.ensures.steps.0 in
    let before = c.loop-batch.columns.documents in
    record {
      texts = ap (λ w. w.texts) c.in_ok-columns-2.ensures ∙ c.loop-batch.invariant.texts;
      documents = ap (λ w. w.documents ++ others) c.in_ok-columns-2.ensures ∙ append_assoc before here others
          ∙ ap (λ l. before ++ l) (sym next) ∙ c.loop-batch.invariant.documents;
      fit = of_back (FitsTexts (texts_held c.args.schema.now.fields)) here others _ next c.loop-batch.invariant.fit;
    }

pub returns-clause-values : goal.returns-clause-values
returns-clause-values c =
    let schema = c.args.schema.now in
    let left = c.loop-batch.batch-iterator.rest in
    let none : left.items ≡ [] = nil_from_length left.items (sym left.ok.0 ∙ c.in-None.ensures.steps.0) in
    let before = c.loop-batch.columns.documents in
    let all = sym (append-nil before) ∙ ap (λ l. before ++ documents_in (blocks_added (joined (map batch_view l)))) (sym none) ∙ c.loop-batch.invariant.documents in
    c.in_ok-finished.ensures.values
    ∙ ap₂ (λ ds n. map (λ field. column_of field ds) (range_with_len 0 n)) all
    (ap length c.loop-batch.invariant.texts ∙ length-map schema.fields (λ f. holds_texts f.kind))

pub returns-clause-kinds : goal.returns-clause-kinds
returns-clause-kinds c = c.in_ok-finished.ensures.kinds ∙ c.loop-batch.invariant.texts
