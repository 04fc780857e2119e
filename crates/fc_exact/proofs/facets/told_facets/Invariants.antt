use Rattle.std.proofs.Common.{◌≡◌, ◌≤◌, ◌++◌, map, drop, length}
use Rattle.std.specs.Prelude.{All}
use Rattle.fc_refine.specs.Grouped.{Ascend}
use Rattle.fc_request.specs.NodeView.{nodes_view}
use Rattle.fc_exact.specs.ToldFacets.{facets_in}
use Rattle.fc_exact.specs.ToldView.{facet_view}
use Rattle.fc_exact.specs.View.{told_view}
use Rattle.fc_exact.proofs.facets.told_facets.Given as goal

abbrev pub invariant-loop-node : goal.invariant-loop-node
invariant-loop-node l = record {
  facets : map facet_view l.facets.items ++ facets_in (map told_view l.told) (nodes_view (drop l.node-index l.nodes)) (length l.facets.items) ≡ facets_in (map told_view l.told) (nodes_view l.nodes) 0;
  few : length l.facets.items ≤ l.node-index;
  ascend : All (λ facet. Ascend (facet_view facet).1) l.facets.items;
}
