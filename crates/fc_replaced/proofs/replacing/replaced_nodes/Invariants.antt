use Rattle.std.proofs.Common.{◌≡◌, drop, map}
use Rattle.fc_spec.specs.replies.Tops.{replaced_nodes}
use Rattle.fc_request.specs.NodeView.{node_view, nodes_view}
use Rattle.fc_replaced.specs.ExactParts.{nodes_over}
use Rattle.fc_replaced.specs.TopsView.{tops_view}
use Rattle.fc_replaced.proofs.replacing.replaced_nodes.Given as goal

abbrev pub invariant-loop-node : goal.invariant-loop-node
invariant-loop-node l = nodes_over (map node_view l.made.items) (replaced_nodes (nodes_view (drop l.node-index l.nodes)) (tops_view l.left)) ≡ replaced_nodes (nodes_view l.nodes) (tops_view l.tops)
