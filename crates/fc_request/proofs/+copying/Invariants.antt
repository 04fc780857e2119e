use Rattle.std.proofs.Common.{◌≡◌, ◌++◌, map, drop}
use Rattle.fc_request.specs.NodeView.{node_view}
use Rattle.fc_request.proofs.+copying.Given as goal

abbrev pub invariant-copying::copy_nodes-loop-node : goal.invariant-copying::copy_nodes-loop-node
invariant-copying::copy_nodes-loop-node l = map node_view l.copies.items ++ map node_view (drop l.node-index l.nodes) ≡ map node_view l.nodes
