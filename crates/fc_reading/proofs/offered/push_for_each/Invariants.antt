use Rattle.std.proofs.Common.{drop}
use Rattle.fc_request.specs.FacetNode.{vals_view}
use Rattle.fc_refine.specs.Grouped.{map_view}
use Rattle.fc_refine.proofs.Growing.{IsGrowing}
use Rattle.fc_reading.proofs.offered.push_for_each.Given as goal

abbrev pub invariant-loop-val : goal.invariant-loop-val
invariant-loop-val l = IsGrowing (map_view (λ i. i) l.fn.by_value) (map_view (λ i. i) l.by_value) (vals_view (drop l.val-index l.vals)) (vals_view l.vals) l.shard
