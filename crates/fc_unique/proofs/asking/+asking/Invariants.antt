use Rattle.std.proofs.Common.{◌≡◌, drop}
use Rattle.fc_request.specs.NodeView.{nodes_view}
use Rattle.fc_unique.specs.Asking.{asks_numbers}
use Rattle.fc_unique.proofs.asking.+asking.Given as goal

abbrev pub invariant-asks_numbers-loop-node : goal.invariant-asks_numbers-loop-node
invariant-asks_numbers-loop-node l = asks_numbers (nodes_view (drop l.node-index l.nodes)) ≡ asks_numbers (nodes_view l.nodes)
