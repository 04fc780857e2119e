use Rattle.std.proofs.Common.{◌≡◌, ◌++◌, drop, map}
use Rattle.std.specs.List.{flat_map, AllByRecursion}
use Rattle.fc_spec.specs.messages.MessageBytes.{value_bytes}
use Rattle.fc_spec.specs.laws.SpellingLaw.{FitsValue}
use Rattle.fc_partial.specs.View.{stat_value_view}
use Rattle.fc_wire.proofs.writing.put_values.Given as goal

-- with the values that are left they are all written
abbrev pub invariant-loop-value : goal.invariant-loop-value
invariant-loop-value l = record {
  bytes : l.out.items ++ flat_map value_bytes (map stat_value_view (drop l.value-index l.values)) ≡ l.fn.out.items ++ flat_map value_bytes (map stat_value_view l.values);
  fit : AllByRecursion FitsValue (map stat_value_view (drop l.value-index l.values)) → AllByRecursion FitsValue (map stat_value_view l.values);
}
