use Rattle.std.proofs.Common.{◌≡◌, length}
use Rattle.fc_request.specs.NodeView.{nodes_view}
use Rattle.fc_levels.specs.Facets.{facets_of}
use Rattle.fc_levels.proofs.nodes.next_facet.Given as goal

abbrev pub invariant-loop-node : goal.invariant-loop-node
invariant-loop-node l = facets_of (nodes_view l.left) ≡ facets_of (nodes_view l.nodes)

abbrev pub decreases-loop-node : goal.decreases-loop-node
decreases-loop-node l = length l.left
