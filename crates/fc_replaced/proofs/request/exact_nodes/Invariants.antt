use Rattle.std.proofs.Common.{◌≡◌, drop, map}
use Rattle.fc_spec.specs.replies.Tops.{exact_nodes}
use Rattle.fc_request.specs.NodeView.{node_view, nodes_view}
use Rattle.fc_replaced.specs.ExactParts.{nodes_over}
use Rattle.fc_replaced.proofs.request.exact_nodes.Given as goal

abbrev pub invariant-loop-node : goal.invariant-loop-node
invariant-loop-node l = nodes_over (map node_view l.exact.items) (exact_nodes (nodes_view (drop l.node-index l.nodes))) ≡ exact_nodes (nodes_view l.nodes)
