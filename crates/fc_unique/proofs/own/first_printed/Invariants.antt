use Rattle.std.proofs.Common.{◌≡◌, drop}
use Rattle.fc_spec.specs.replies.Folded.{from_printed}
use Rattle.fc_request.specs.NodeView.{nodes_view}
use Rattle.fc_unique.proofs.own.first_printed.Given as goal

abbrev pub invariant-loop-at : goal.invariant-loop-at
invariant-loop-at l = from_printed l.is_empty (nodes_view (drop l.at l.nodes)) ≡ from_printed l.is_empty (nodes_view l.nodes)
