use Rattle.std.proofs.Common.{[], ◌∷◌, map, All, IsTrue, ap, sym, subst, ◌∙◌}
use Rattle.std.proofs.lemmas.List.{map-append}
use Rattle.std.proofs.lemmas.List.Elements.{All-push}
use Rattle.serde_json.specs.View.{view, items_view}
use Rattle.fc_spec.specs.words.Walks.{each}
use Rattle.fc_spec.specs.documents.BlockReading.{value_of, without_nulls}
use Rattle.fc_spec.specs.documents.ValidBlocks.{is_value_of}
use Rattle.fc_base.specs.View.{field_type_view, val_view}
use Rattle.fc_docs.specs.View.{values_view}
use Rattle.fc_docs.proofs.Items.{behind, no_null, one_more}
use Rattle.fc_docs.proofs.read.values.read_items.Goals as goal

pub loop-item-preserved-in_ok-push : goal.loop-item-preserved-in_ok-push
loop-item-preserved-in_ok-push c =
    let step = value_of (field_type_view c.args.kind) in
    let vs = values_view c.loop-item.values in
    let v = c.in_ok-read_item.field-0 in
    let d = view c.in-Some.item in
    let ds = items_view c.next.new.self.rest.items in
    let pushed = ap (map val_view) c.in_ok-push.ensures.items ∙ map-append val_view c.loop-item.values.items (v ∷ []) in
    record {
      read =
          c.loop-item.invariant.read
          ∙ ap (λ xs. behind vs (each step (without_nulls (items_view xs)))) c.in-Some.ensures.steps.0
          ∙ ap (λ es. behind vs (each step es)) (no_null d ds (sym c.is_null.ensures ∙ c.if-not-is_null.true))
          ∙ one_more step vs d (without_nulls ds) (val_view v) c.in_ok-read_item.ensures.answer
          ∙ ap (λ ws. behind ws (each step (without_nulls ds))) (sym pushed);
      valid = subst (All (λ val. IsTrue (is_value_of (field_type_view c.args.kind) (val_view val)))) (sym c.in_ok-push.ensures.items) (All-push (λ val. IsTrue (is_value_of (field_type_view c.args.kind) (val_view val))) c.loop-item.values.items v c.loop-item.invariant.valid c.in_ok-read_item.ensures.valid);
    }
