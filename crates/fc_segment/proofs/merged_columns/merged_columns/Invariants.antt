use Rattle.std.proofs.Common.{◌≡◌, map, take}
use Rattle.std.specs.Arc.{arc_value}
use Rattle.std.specs.List.{range_with_len}
use Rattle.fc_spec.specs.documents.Schema.{texts_held}
use Rattle.fc_segment.specs.Columns.{column_values, is_text_column}
use Rattle.fc_segment.specs.Merged.{live_values}
use Rattle.fc_segment.proofs.merged_columns.merged_columns.Given as goal

abbrev pub invariant-loop-field : goal.invariant-loop-field
invariant-loop-field l = record {
  values : map column_values l.columns.items ≡ map (λ field. live_values field (map arc_value l.segments)) (range_with_len 0 l.field);
  kinds : map is_text_column l.columns.items ≡ take l.field (texts_held l.schema.fields);
}
