use Rattle.std.proofs.Common.{◌≡◌, [], All, map, take}
use Rattle.std.specs.List.Sorted.{IsStrictlySortedBy}
use Rattle.fc_spec.specs.documents.Val.{val_cmp}
use Rattle.fc_request.specs.FacetNode.{vals_view}
use Rattle.fc_coord.proofs.spot.none_listed.Given as goal

abbrev pub invariant-loop-shard : goal.invariant-loop-shard
invariant-loop-shard l = record {
  none : map (λ list. vals_view list.items) l.lists.items ≡ map (λ i. []) (take l._shard-index l.shards);
  ascend : All (λ list. IsStrictlySortedBy val_cmp (vals_view list.items)) l.lists.items;
}
