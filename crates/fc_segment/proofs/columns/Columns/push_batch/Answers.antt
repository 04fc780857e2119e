use Rattle.std.proofs.Common.{◌≡◌, ◌+◌, ◌++◌, List, ◌∷◌, [], length, map, All, sym, ap, ap₂, subst, ◌∙◌, append_assoc, length-append, arith}
use Rattle.std.proofs.lemmas.List.{append-nil, nil_from_length}
use Rattle.fc_spec.specs.documents.Operations.{blocks_added}
use Rattle.fc_spec.specs.documents.Totals.{documents_in}
use Rattle.fc_docs.specs.declared.block.Op.{Op}
use Rattle.fc_docs.specs.View.{batch_view, op_view}
use Rattle.fc_segment.specs.Building.{FitsTexts}
use Rattle.fc_segment.proofs.AddedBatches.{documents-front, of_back, of_front}
use Rattle.fc_segment.proofs.columns.Columns.push_batch.Goals as goal

-- the documents of the operations that are left, of which one comes first
next_is : (left : List Op) (op : Op) (behind : List Op) → left ≡ op ∷ behind
    → documents_in (blocks_added (map op_view left)) ≡ documents_in (blocks_added (op_view op ∷ [])) ++ documents_in (blocks_added (map op_view behind))
next_is left op behind is = ap (λ l. documents_in (blocks_added (map op_view l))) is ∙ documents-front (op_view op ∷ []) (map op_view behind)

pub push_op-requires : goal.push_op-requires
push_op-requires c =
    let here = documents_in (blocks_added (op_view c.in-Some.op ∷ [])) in
    let behind = documents_in (blocks_added (map op_view c.next.new.self.rest.items)) in
    let next = next_is c.loop-op.op-iterator.rest.items c.in-Some.op c.next.new.self.rest.items c.in-Some.ensures.steps.0 in
    let before = c.loop-op.columns.documents in
    let all = ap length c.loop-op.invariant.documents in
    let left = ap length next in
    record {
      fit = subst (λ texts. All (FitsTexts texts) here) (sym c.loop-op.invariant.texts) (of_front (FitsTexts c.args.self.texts) here behind _ next c.loop-op.invariant.fit);
      few = omega (
        arith,
        all,
        left,
        length-append before (documents_in (blocks_added (map op_view c.loop-op.op-iterator.rest.items))),
        length-append here behind,
        length-append c.args.self.documents (documents_in (blocks_added (batch_view c.args.batch))),
        c.requires.few,
      );
    }

pub loop-op-preserved-in_ok-columns : goal.loop-op-preserved-in_ok-columns
loop-op-preserved-in_ok-columns c =
    let here = documents_in (blocks_added (op_view c.in-Some.op ∷ [])) in
    let behind = documents_in (blocks_added (map op_view c.next.new.self.rest.items)) in
    let next = next_is c.loop-op.op-iterator.rest.items c.in-Some.op c.next.new.self.rest.items c.in-Some.ensures.steps.0 in
    let before = c.loop-op.columns.documents in
    record {
      texts = ap (λ w. w.texts) c.in_ok-columns.ensures ∙ c.loop-op.invariant.texts;
      documents = ap (λ w. w.documents ++ behind) c.in_ok-columns.ensures ∙ append_assoc before here behind
          ∙ ap (λ l. before ++ l) (sym next) ∙ c.loop-op.invariant.documents;
      fit = of_back (FitsTexts c.args.self.texts) here behind _ next c.loop-op.invariant.fit;
    }

pub returns : goal.returns
returns c =
    let left = c.loop-op.op-iterator.rest in
    let none : left.items ≡ [] = nil_from_length left.items (sym left.ok.0 ∙ c.in-None.ensures.steps.0) in
    let before = c.loop-op.columns.documents in
    let all = sym (append-nil before) ∙ ap (λ l. before ++ documents_in (blocks_added (map op_view l))) (sym none) ∙ c.loop-op.invariant.documents in
    ap₂ (λ texts ds. record { texts = texts; documents = ds }) c.loop-op.invariant.texts all
