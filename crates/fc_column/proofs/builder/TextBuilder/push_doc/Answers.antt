use Rattle.std.proofs.Common.{◌≡◌, ◌++◌, ◌∷◌, [], true, take, All, map, subst, subst₂, sym, ap, ◌∙◌, arith}
use Rattle.std.proofs.lemmas.Bool.{false≢true}
use Rattle.std.proofs.lemmas.List.{take_all}
use Rattle.std.proofs.lemmas.List.Elements.{All-push}
use Rattle.std.specs.List.{list_any}
use Rattle.fc_base.specs.View.{val_view}
use Rattle.fc_spec.specs.documents.Val.{text_cmp}
use Rattle.fc_spec.specs.documents.Columns.{IsText, IsAscending, texts_in}
use Rattle.fc_column.specs.Terms.{has_text}
use Rattle.fc_column.specs.Numbering.{has_number, text_numbered}
use Rattle.fc_column.proofs.ValueLists.{texts_more, holds_of_value}
use Rattle.fc_column.proofs.Ascents.{texts_ascend}
use Rattle.fc_column.proofs.Grown.{Grown, grown_more, still_numbered, rows_more, used_more, left_half}
use Rattle.fc_column.proofs.builder.TextBuilder.push_doc.Goals as goal

pub unreachable-requires : goal.unreachable-requires
unreachable-requires c =
    false≢true (subst (λ v. IsText (val_view v)) c.in_default.is
    (holds_of_value IsText c.args.values.now c.loop-value.value-index c.value-item.result c.loop-value-test.true c.value-item.is c.requires.texts))

pub loop-value-preserved : goal.loop-value-preserved
loop-value-preserved c =
    let old = c.self.inside.numbers.entries in
    let mid = c.loop-value.self-inside.numbers.entries in
    let new = c.number_of.new.numbers.entries in
    let added = c.in_ok-number.ensures in
    let pushed = c.in_ok-push.ensures.ok in
    let values = c.args.values.now in
    let index = c.loop-value.value-index in (
      c.loop-value.invariant.0,
      ap (λ laid. laid.rows) pushed ∙ c.loop-value.invariant.1,
      subst₂ (Grown old new) (sym (ap (λ laid. laid.next) pushed))
          (sym (texts_more values index c.value-item.result c.in-Text.text c.loop-value-test.true c.value-item.is c.in-Text.is))
          (grown_more old mid new c.loop-value.self-inside.rows.next (texts_in (map val_view (take index values))) c.in_ok-number.number c.in-Text.text
          c.loop-value.invariant.2 added.numbering added.has added.text added.texts added.others added.other_texts),
    )

pub invariant_of-self : goal.invariant_of-self
invariant_of-self c =
    let grown = c.loop-value.invariant.2 in
    left_half c.self.inside _ c.self.invariant c.number_of.ensures.numbering (λ n was. c.number_of.ensures.others n (grown.others n was))
    (λ n was. c.number_of.ensures.other_texts n (grown.others n was) ∙ grown.other_texts n was) c.loop-value.invariant.1 c.loop-value.invariant.0

pub invariant_of-self-in_err-push : goal.invariant_of-self-in_err-push
invariant_of-self-in_err-push c =
    let grown = c.loop-value.invariant.2 in
    left_half c.self.inside _ c.self.invariant c.number_of.ensures.numbering (λ n was. c.number_of.ensures.others n (grown.others n was))
    (λ n was. c.number_of.ensures.other_texts n (grown.others n was) ∙ grown.other_texts n was) (ap (λ laid. laid.rows) c.in_err-push.ensures.err ∙ c.loop-value.invariant.1) c.loop-value.invariant.0

pub invariant_of-self-in_err-end_row : goal.invariant_of-self-in_err-end_row
invariant_of-self-in_err-end_row c =
    let grown = c.loop-value.invariant.2 in
    left_half c.self.inside _ c.self.invariant grown.numbering grown.others grown.other_texts (ap (λ laid. laid.rows) c.in_err-end_row.ensures.err ∙ c.loop-value.invariant.1) c.loop-value.invariant.0

pub invariant_of-self-2 : goal.invariant_of-self-2
invariant_of-self-2 c =
    let builder = c.self.inside in
    let old = builder.numbers.entries in
    let new = c.loop-value.self-inside.numbers.entries in
    let kept = c.self.invariant in
    let vs = map val_view c.args.values.now in
    let next = c.loop-value.self-inside.rows.next in
    let all = take_all c.loop-value.value-index c.args.values.now (omega arith) in
    let grown = subst (λ l. Grown old new next (texts_in (map val_view l))) all c.loop-value.invariant.2 in
    let ended = c.in_ok-end_row.ensures.ok in
    let rows = ap (λ laid. laid.rows) ended ∙ ap (λ l. l ++ next ∷ []) c.loop-value.invariant.1 in
    let column = ap (map (map (text_numbered new))) rows ∙ rows_more old new builder.rows.rows next (texts_in vs) kept.numbered grown in
    record {
      numbering = grown.numbering;
      numbered = subst (All (All (λ n. has_number n new ≡ true))) (sym rows)
          (All-push (All (λ n. has_number n new ≡ true)) builder.rows.rows next (still_numbered old new builder.rows.rows kept.numbered grown.others) grown.numbered);
      ascending = subst (All (IsAscending text_cmp)) (sym column)
          (All-push (IsAscending text_cmp) (map (map (text_numbered old)) builder.rows.rows) (texts_in vs) kept.ascending (texts_ascend vs c.requires.texts c.requires.ascending));
      used = λ whole t. used_more old new next (texts_in vs) (map (map (text_numbered old)) builder.rows.rows) grown (kept.used c.if-self.false) t
          ∙ ap (list_any (has_text t)) (sym column);
      whole = λ whole. ap (λ laid. laid.next) ended;
    }

pub returns : goal.returns
returns c =
    let builder = c.self.inside in
    let old = builder.numbers.entries in
    let new = c.loop-value.self-inside.numbers.entries in
    let next = c.loop-value.self-inside.rows.next in
    let all = take_all c.loop-value.value-index c.args.values.now (omega arith) in
    let grown = subst (λ l. Grown old new next (texts_in (map val_view l))) all c.loop-value.invariant.2 in
    ap (map (map (text_numbered new))) (ap (λ laid. laid.rows) c.in_ok-end_row.ensures.ok ∙ ap (λ l. l ++ next ∷ []) c.loop-value.invariant.1)
    ∙ rows_more old new builder.rows.rows next (texts_in (map val_view c.args.values.now)) c.self.invariant.numbered grown
    ∙ ap (λ l. l ++ texts_in (map val_view c.args.values.now) ∷ []) c.self.view_is
