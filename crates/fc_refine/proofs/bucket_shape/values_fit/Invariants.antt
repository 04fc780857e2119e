use Rattle.std.proofs.Common.{◌≡◌, map, drop}
use Rattle.fc_spec.specs.messages.MessageShape.{values_fit}
use Rattle.fc_spec.specs.requests.Request.{stats_of}
use Rattle.fc_partial.specs.View.{stat_value_view}
use Rattle.fc_request.specs.NodeView.{nodes_view}
use Rattle.fc_refine.proofs.bucket_shape.values_fit.Given as goal

abbrev pub invariant-loop-node : goal.invariant-loop-node
invariant-loop-node l = values_fit (stats_of (nodes_view l.nodes)) (map stat_value_view l.values) ≡ values_fit (stats_of (nodes_view (drop l.node-index l.nodes))) (map stat_value_view l.left)
