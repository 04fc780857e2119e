use Rattle.std.proofs.Common.{◌≡◌, map}
use Rattle.fc_segment.specs.Building.{builds_texts, values_built}
use Rattle.fc_segment.proofs.WalkedFields.{Pushed}
use Rattle.fc_segment.proofs.columns.push_fields.Given as goal

abbrev pub invariant-loop-field : goal.invariant-loop-field
invariant-loop-field l = record {
  pushed : Pushed (map values_built l.initial.builders.items) (map values_built l.builders.items) l.at l.document l.field-iterator;
  kinds : map builds_texts l.builders.items ≡ map builds_texts l.initial.builders.items;
}
