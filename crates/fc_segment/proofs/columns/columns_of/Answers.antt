use Rattle.std.proofs.Common.{◌++◌, ◌∷◌, [], length, map, sym, ap, ap₂, ◌∙◌, arith}
use Rattle.std.specs.List.{range_with_len}
use Rattle.std.proofs.lemmas.List.{length-map, take_all}
use Rattle.fc_spec.specs.documents.Columns.{column_of}
use Rattle.fc_spec.specs.documents.Operations.{blocks_added}
use Rattle.fc_spec.specs.documents.Schema.{holds_texts}
use Rattle.fc_spec.specs.documents.Totals.{documents_in}
use Rattle.fc_spec.specs.documents.ValidBlocks.{IsBlockOf}
use Rattle.fc_docs.specs.View.{op_view}
use Rattle.fc_segment.proofs.AddedBlocks.{documents_more, total_few, added_here}
use Rattle.fc_segment.proofs.ValidFields.{blocks_fit}
use Rattle.fc_segment.proofs.columns.columns_of.Goals as goal

pub loop-op-preserved : goal.loop-op-preserved
loop-op-preserved c =
    let ops = c.args.ops.now in
    let op = c.op-item.result in
    c.in_ok-columns-2.ensures
    ∙ ap₂ (λ texts ds. record { texts = texts; documents = ds })
    (ap (λ w. w.texts) c.loop-op.invariant)
    (ap (λ w. w.documents ++ documents_in (blocks_added (op_view op ∷ []))) c.loop-op.invariant ∙ sym (documents_more ops c.loop-op.op-index op c.loop-op-test.true c.op-item.is))

pub push_op-requires : goal.push_op-requires
push_op-requires c =
    let schema = c.args.schema.now in
    let ops = c.args.ops.now in
    let op = c.op-item.result in
    let at = c.loop-op.op-index in
    rw c.loop-op.invariant (record {
      fit = blocks_fit schema (blocks_added (op_view op ∷ [])) (added_here ops at op c.loop-op-test.true c.op-item.is (IsBlockOf schema) c.requires.valid);
      few = omega (arith, total_few ops at op c.loop-op-test.true c.op-item.is, c.requires.few);
    })

pub returns-clause-values : goal.returns-clause-values
returns-clause-values c =
    let schema = c.args.schema.now in
    let ops = c.args.ops.now in
    c.in_ok-finished.ensures.values
    ∙ ap₂ (λ ds n. map (λ field. column_of field ds) (range_with_len 0 n))
    (ap (λ w. w.documents) c.loop-op.invariant ∙ ap (λ l. documents_in (blocks_added (map op_view l))) (take_all c.loop-op.op-index ops (omega arith)))
    (ap (λ w. length w.texts) c.loop-op.invariant ∙ length-map schema.fields (λ f. holds_texts f.kind))

pub returns-clause-kinds : goal.returns-clause-kinds
returns-clause-kinds c = c.in_ok-finished.ensures.kinds ∙ ap (λ w. w.texts) c.loop-op.invariant
