use Rattle.std.proofs.Common.{◌≡◌, ◌+◌, ◌≤◌, drop, option_map}
use Rattle.fc_spec.specs.requests.SortReading.{statistic_number}
use Rattle.fc_request.specs.NodeView.{nodes_view}
use Rattle.fc_request.proofs.reading.sort.statistic_number.Given as goal

abbrev pub invariant-loop-node : goal.invariant-loop-node
invariant-loop-node l = record {
  few : l.number ≤ l.node-index;
  rest : option_map (λ k. l.number + k) (statistic_number l.name (nodes_view (drop l.node-index l.nodes))) ≡ statistic_number l.name (nodes_view l.nodes);
}
