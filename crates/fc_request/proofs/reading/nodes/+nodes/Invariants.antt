use Rattle.std.proofs.Common.{◌≡◌, ◌+◌, ◌*◌, ◌≤◌, length, map}
use Rattle.serde_json.specs.View.{members_view}
use Rattle.fc_spec.specs.requests.RequestReading.{members_read, nodes_within}
use Rattle.fc_request.specs.Heads.{node_within}
use Rattle.fc_request.specs.NodeView.{node_view}
use Rattle.fc_request.proofs.NodeWalk.{behind}
use Rattle.fc_request.proofs.reading.nodes.+nodes.Given as goal

abbrev pub decreases-inner_nodes : goal.decreases-inner_nodes
decreases-inner_nodes l = 3 * l.left + 2

abbrev pub decreases-read_node : goal.decreases-read_node
decreases-read_node l = 3 * l.left

abbrev pub decreases-read_nodes : goal.decreases-read_nodes
decreases-read_nodes l = 3 * l.left + 1

abbrev pub invariant-read_nodes-loop-name : goal.invariant-read_nodes-loop-name
invariant-read_nodes-loop-name l = record {
  read : behind (map node_view l.nodes.items) (members_read (node_within l.left l.schema l.outermost l.unmoved) l.seen (members_view l.name-iterator))
      ≡ nodes_within l.left l.schema l.outermost l.unmoved l.initial.seen (members_view l.members.entries);
  counted : length l.nodes.items + 2 * l.initial.seen ≤ 2 * l.seen;
  rises : l.initial.seen ≤ l.seen;
  few : l.seen ≤ 64;
}
