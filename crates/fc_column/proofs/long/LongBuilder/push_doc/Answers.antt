use Rattle.std.proofs.Common.{◌≡◌, true, ◌++◌, ◌∷◌, [], true≢false, All, map, w64, to_z, of_z, subst, sym, ap, ap₂, ◌∙◌, arith, rules}
use Rattle.std.proofs.lemmas.List.{take_all}
use Rattle.std.proofs.lemmas.List.Elements.{All-push}
use Rattle.std.specs.Ordering.{int_cmp}
use Rattle.std.specs.Prelude.{FitsSigned}
use Rattle.fc_spec.specs.documents.IntegerTexts.{is_long}
use Rattle.fc_column.proofs.InOrder.{long_if_fits}
use Rattle.fc_base.specs.View.{val_view}
use Rattle.fc_spec.specs.documents.Columns.{IsLong, IsAscending, longs_in}
use Rattle.fc_column.proofs.ValueLists.{longs_more, holds_of_value}
use Rattle.fc_column.proofs.Ascents.{longs_ascend}
use Rattle.fc_column.proofs.long.LongBuilder.push_doc.Goals as goal

pub loop-value-preserved : goal.loop-value-preserved
loop-value-preserved c =
    let pushed = c.in_ok-push.ensures.ok in
    let fits : FitsSigned w64 c.in-Long.number = search rules in
    let number : to_z w64 (of_z w64 c.in-Long.number) ≡ c.in-Long.number = search rules in (
      c.loop-value.invariant.0,
      ap (λ laid. laid.rows) pushed ∙ c.loop-value.invariant.1,
      ap (λ laid. laid.next) pushed ∙ ap₂ (λ l z. l ++ z ∷ []) c.loop-value.invariant.2 number
          ∙ sym (longs_more c.args.values.now c.loop-value.value-index c.value-item.result c.in-Long.number c.loop-value-test.true c.value-item.is c.in-Long.is),
      subst (All (λ value. is_long value ≡ true)) (sym (ap (λ laid. laid.next) pushed))
          (All-push (λ value. is_long value ≡ true) c.loop-value.self-inside.values.next _ c.loop-value.invariant.3 (ap is_long number ∙ long_if_fits c.in-Long.number fits)),
    )

pub unreachable-requires : goal.unreachable-requires
unreachable-requires c =
    true≢false (subst (λ v. IsLong (val_view v)) c.in_default.is
    (holds_of_value IsLong c.args.values.now c.loop-value.value-index c.value-item.result c.loop-value-test.true c.value-item.is c.requires.longs))

pub invariant_of-self : goal.invariant_of-self
invariant_of-self c = record {
  ascending = subst (All (IsAscending int_cmp)) (sym (ap (λ laid. laid.rows) c.in_err-push.ensures.err ∙ c.loop-value.invariant.1)) c.self.invariant.ascending;
  long = subst (All (All (λ value. is_long value ≡ true))) (sym (ap (λ laid. laid.rows) c.in_err-push.ensures.err ∙ c.loop-value.invariant.1)) c.self.invariant.long;
  whole = λ kept. absurd (true≢false (sym c.loop-value.invariant.0 ∙ kept));
}

pub invariant_of-self-2 : goal.invariant_of-self-2
invariant_of-self-2 c =
    let vs = map val_view c.args.values.now in
    let ended = c.in_ok-end_row.ensures.ok in
    let next = c.loop-value.invariant.2 ∙ ap (λ l. longs_in (map val_view l)) (take_all c.loop-value.value-index c.args.values.now (omega arith)) in
    record {
      ascending = subst (All (IsAscending int_cmp)) (sym (ap (λ laid. laid.rows) ended ∙ ap₂ (λ rows row. rows ++ row ∷ []) c.loop-value.invariant.1 next))
          (All-push (IsAscending int_cmp) _ (longs_in vs) c.self.invariant.ascending (longs_ascend vs c.requires.longs c.requires.ascending));
      long = subst (All (All (λ value. is_long value ≡ true))) (sym (ap (λ laid. laid.rows) ended ∙ ap (λ rows. rows ++ c.loop-value.self-inside.values.next ∷ []) c.loop-value.invariant.1))
          (All-push (All (λ value. is_long value ≡ true)) _ c.loop-value.self-inside.values.next c.self.invariant.long c.loop-value.invariant.3);
      whole = λ kept. ap (λ laid. laid.next) ended;
    }

pub returns : goal.returns
returns c =
    let ended = c.in_ok-end_row.ensures.ok in
    let next = c.loop-value.invariant.2 ∙ ap (λ l. longs_in (map val_view l)) (take_all c.loop-value.value-index c.args.values.now (omega arith)) in
    ap (λ laid. laid.rows) ended ∙ ap₂ (λ rows row. rows ++ row ∷ []) (c.loop-value.invariant.1 ∙ c.self.view_is) next
