use Rattle.std.proofs.Common.{◌≡◌, drop}
use Rattle.std.specs.Prelude.{max}
use Rattle.fc_spec.specs.messages.Lacks as definition
use Rattle.fc_request.specs.NodeView.{nodes_view}
use Rattle.fc_coord.proofs.depth.+depth.Given as goal

abbrev pub invariant-terms_depth-loop-node : goal.invariant-terms_depth-loop-node
invariant-terms_depth-loop-node l = max l.deepest (definition.terms_depth (nodes_view (drop l.node-index l.nodes))) ≡ definition.terms_depth (nodes_view l.nodes)
