use Rattle.std.proofs.Common.{◌≡◌, ◌≤◌, ◌++◌, length, map, All}
use Rattle.std.specs.Vec.Iter.{into_iter_items}
use Rattle.fc_segment.specs.Building.{builds_texts, padded, values_built}
use Rattle.fc_segment.specs.Columns.{column_values, is_text_column}
use Rattle.fc_segment.proofs.columns.finish.Given as goal

-- what is made, and what is left
abbrev pub invariant-loop-builder : goal.invariant-loop-builder
invariant-loop-builder l = record {
  behind : All (λ builder. length (values_built builder) ≤ l.len) (into_iter_items l.builder-iterator);
  values : map column_values l.columns.items ++ map (λ builder. padded l.len (values_built builder)) (into_iter_items l.builder-iterator)
      ≡ map (λ builder. padded l.len (values_built builder)) l.fn.builders.items;
  kinds : map is_text_column l.columns.items ++ map builds_texts (into_iter_items l.builder-iterator)
      ≡ map builds_texts l.fn.builders.items;
}
