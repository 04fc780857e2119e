use Rattle.std.proofs.Common.{◌≡◌, drop}
use Rattle.fc_request.specs.NodeView.{nodes_view}
use Rattle.fc_lacks.specs.Asking.{asks_at}
use Rattle.fc_lacks.proofs.asking.+asking.Given as goal

abbrev pub invariant-asks_at-loop-node : goal.invariant-asks_at-loop-node
invariant-asks_at-loop-node l = asks_at l.depth (nodes_view (drop l.node-index l.nodes)) ≡ asks_at l.depth (nodes_view l.nodes)
