use Rattle.std.proofs.Common.{◌≡◌, ◌∙◌, ◌<◌, false, map, length, get_or, sym, ap, arith}
use Rattle.std.specs.Arc.{arc_value}
use Rattle.std.specs.List.{range_with_len}
use Rattle.std.proofs.lemmas.List.{take_more, take_all, length-map}
use Rattle.std.proofs.lemmas.List.FromFn.{map-range_with_len_more}
use Rattle.fc_base.specs.View.{field_type_view}
use Rattle.fc_spec.specs.documents.Schema.{Field, holds_texts, texts_held}
use Rattle.fc_segment.specs.Columns.{column_values, is_text_column}
use Rattle.fc_segment.specs.Merged.{live_values}
use Rattle.fc_segment.proofs.Rows.{holds_texts_at}
use Rattle.fc_segment.proofs.Transposed.{map-pushed}
use Rattle.fc_segment.proofs.merged_columns.merged_columns.Goals as goal

pub merged_column-requires-clause-fields : goal.merged_column-requires-clause-fields
merged_column-requires-clause-fields c = λ k d inside.
    omega (arith, ap length (c.requires k d inside), length-map c.args.schema.now.fields (λ (f : Field). holds_texts f.kind), c.fields-field-end.ensures.count)

pub merged_column-requires-clause-kinds : goal.merged_column-requires-clause-kinds
merged_column-requires-clause-kinds c = λ k d inside.
    let fields = c.args.schema.now.fields in
    let below : c.loop-field.field < length fields = omega (arith, c.fields-field-end.ensures.count) in
    ap (λ l. get_or l c.loop-field.field false) (c.requires k d inside)
    ∙ holds_texts_at fields c.loop-field.field (field_type_view c.field_type.result) below c.field_type.ensures ∙ sym c.holds_texts-texts.ensures

pub loop-field-preserved : goal.loop-field-preserved
loop-field-preserved c =
    let n = c.loop-field.field in
    let fields = c.args.schema.now.fields in
    let segments = map arc_value c.args.segments.now in
    let column = c.in_ok-merged_column.field-0 in
    let below : n < length fields = omega (arith, c.fields-field-end.ensures.count) in
    let within : n < length (texts_held fields) = omega (arith, length-map fields (λ (f : Field). holds_texts f.kind)) in
    record {
      values = map-pushed column_values c.loop-field.columns.items c.push.new.self.items column _ (live_values n segments) c.in_ok-push.ensures.items c.loop-field.invariant.values c.in_ok-merged_column.ensures.values
          ∙ sym (map-range_with_len_more (λ field. live_values field segments) 0 n n (omega arith));
      kinds = map-pushed is_text_column c.loop-field.columns.items c.push.new.self.items column _ _ c.in_ok-push.ensures.items c.loop-field.invariant.kinds
          (c.in_ok-merged_column.ensures.kind ∙ c.holds_texts-texts.ensures ∙ sym (holds_texts_at fields n (field_type_view c.field_type.result) below c.field_type.ensures))
          ∙ sym (take_more (texts_held fields) n false within);
    }

pub returns-clause-values : goal.returns-clause-values
returns-clause-values c =
    let segments = map arc_value c.args.segments.now in
    let all : c.loop-field.field ≡ length c.args.schema.now.fields = omega (arith, c.fields-field-end.ensures.count) in
    c.loop-field.invariant.values ∙ ap (λ n. map (λ field. live_values field segments) (range_with_len 0 n)) all

pub returns-clause-kinds : goal.returns-clause-kinds
returns-clause-kinds c =
    let fields = c.args.schema.now.fields in
    c.loop-field.invariant.kinds
    ∙ take_all c.loop-field.field (texts_held fields) (omega (arith, c.fields-field-end.ensures.count, length-map fields (λ (f : Field). holds_texts f.kind)))
