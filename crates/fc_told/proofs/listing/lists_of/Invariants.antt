use Rattle.std.proofs.Common.{◌≡◌, map, take}
use Rattle.fc_request.specs.FacetNode.{vals_view}
use Rattle.fc_told.specs.ListedView.{list_of}
use Rattle.fc_told.proofs.listing.lists_of.Given as goal

abbrev pub invariant-loop-shard : goal.invariant-loop-shard
invariant-loop-shard l = map (λ list. vals_view list.items) l.lists.items ≡ map (λ i. list_of i l.by_shard) (take l.shard-index l.shards)
