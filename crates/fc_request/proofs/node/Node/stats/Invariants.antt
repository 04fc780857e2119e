use Rattle.std.proofs.Common.{◌≡◌, ◌++◌, map, drop}
use Rattle.fc_spec.specs.requests.Request.{stats_of}
use Rattle.fc_base.specs.StatisticView.{stat_view}
use Rattle.fc_request.specs.NodeView.{nodes_view}
use Rattle.fc_request.proofs.node.Node.stats.Given as goal

abbrev pub invariant-loop-node : goal.invariant-loop-node
invariant-loop-node l = map stat_view l.stats.items ++ stats_of (nodes_view (drop l.node-index l.node-items)) ≡ stats_of (nodes_view l.node-items)
