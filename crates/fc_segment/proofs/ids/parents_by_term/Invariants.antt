use Rattle.std.proofs.Common.{◌≡◌, [], map, All}
use Rattle.std.specs.List.{range_with_len}
use Rattle.fc_segment.specs.Ids.{parent_ordinals, AreOrdinals}
use Rattle.fc_segment.proofs.ids.parents_by_term.Given as goal

abbrev pub invariant-loop-at : goal.invariant-loop-at
invariant-loop-at l = record {
  entries : l.entries ≡ record { rows = map (parent_ordinals l.ids l.parents) (range_with_len 0 l.at); next = [] };
  ordinals : All (AreOrdinals l.ids) (map (parent_ordinals l.ids l.parents) (range_with_len 0 l.at));
}
