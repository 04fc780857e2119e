use Rattle.std.proofs.Common.{◌≡◌, [], All, map, take}
use Rattle.fc_spec.specs.documents.Schema.{texts_held}
use Rattle.fc_segment.specs.Building.{builds_texts, values_built}
use Rattle.fc_segment.proofs.columns.Columns.new.Given as goal

abbrev pub invariant-loop-field : goal.invariant-loop-field
invariant-loop-field l = record {
  none : All (λ builder. values_built builder ≡ []) l.builders.items;
  kinds : map builds_texts l.builders.items ≡ take l.field (texts_held l.schema.fields);
}
