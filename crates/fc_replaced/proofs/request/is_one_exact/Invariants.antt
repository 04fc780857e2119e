use Rattle.std.proofs.Common.{◌≡◌, drop}
use Rattle.fc_spec.specs.requests.Shape.{no_exact}
use Rattle.fc_request.specs.NodeView.{nodes_view}
use Rattle.fc_replaced.proofs.request.is_one_exact.Given as goal

abbrev pub invariant-loop-node : goal.invariant-loop-node
invariant-loop-node l = no_exact (nodes_view (drop l.node-index l.nodes)) ≡ no_exact (nodes_view l.nodes)
