use Rattle.std.proofs.Common.{◌≡◌, ◌<◌, [], All, false, length, subst, sym, ap, ◌∙◌, arith}
use Rattle.std.proofs.lemmas.List.{take_more, take_all, length-map}
use Rattle.std.proofs.lemmas.List.Elements.{All-push}
use Rattle.fc_base.specs.View.{field_type_view}
use Rattle.fc_spec.specs.documents.Schema.{Field, holds_texts, texts_held}
use Rattle.fc_segment.specs.declared.builder.Builder.{Builder}
use Rattle.fc_segment.specs.Building.{builds_texts, values_built}
use Rattle.fc_segment.proofs.Rows.{holds_texts_at}
use Rattle.fc_segment.proofs.Transposed.{map-pushed}
use Rattle.fc_segment.proofs.columns.Columns.new.Goals as goal

pub loop-field-preserved : goal.loop-field-preserved
loop-field-preserved c =
    let n = c.loop-field.field in
    let fields = c.args.schema.now.fields in
    let builder = c.in_ok-new.field-0 in
    let below : n < length fields = omega (arith, c.fields-field-end.ensures.count) in
    let within : n < length (texts_held fields) = omega (arith, length-map fields (λ (f : Field). holds_texts f.kind)) in
    record {
      none = subst (All (λ (b : Builder). values_built b ≡ [])) (sym c.in_ok-push.ensures.items)
          (All-push (λ (b : Builder). values_built b ≡ []) c.loop-field.builders.items builder c.loop-field.invariant.none c.in_ok-new.ensures.values);
      kinds = map-pushed builds_texts c.loop-field.builders.items c.push.new.self.items builder _ _ c.in_ok-push.ensures.items c.loop-field.invariant.kinds
          (c.in_ok-new.ensures.kind ∙ sym (holds_texts_at fields n (field_type_view c.field_type.result) below c.field_type.ensures))
          ∙ sym (take_more (texts_held fields) n false within);
    }

pub invariant_of-result : goal.invariant_of-result
invariant_of-result c = record {
  few = omega arith;
  behind = λ k d inside. omega (arith, ap length (c.loop-field.invariant.none k d inside));
}

pub returns : goal.returns
returns c =
    let fields = c.args.schema.now.fields in
    let all = take_all c.loop-field.field (texts_held fields) (omega (arith, c.fields-field-end.ensures.count, length-map fields (λ (f : Field). holds_texts f.kind))) in
    ap (λ texts. record { texts = texts; documents = [] }) (c.loop-field.invariant.kinds ∙ all)
