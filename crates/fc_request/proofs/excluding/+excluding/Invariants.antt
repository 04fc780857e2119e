use Rattle.std.proofs.Common.{◌≡◌, drop}
use Rattle.fc_spec.specs.requests.Shape.{no_exclusions}
use Rattle.fc_request.specs.NodeView.{nodes_view}
use Rattle.fc_request.proofs.excluding.+excluding.Given as goal

abbrev pub invariant-exclude_none-loop-node : goal.invariant-exclude_none-loop-node
invariant-exclude_none-loop-node l = no_exclusions (nodes_view (drop l.node-index l.nodes)) ≡ no_exclusions (nodes_view l.nodes)
