use Rattle.std.proofs.Common.{◌∙◌, ap}
use Rattle.fc_request.specs.Nested.{with_nested}
use Rattle.fc_request.specs.NodeView.{node_view, nodes_view}
use Rattle.fc_request.proofs.SameNodes.{nested_own}
use Rattle.fc_request.proofs.+copying.Goals as goal

pub node::Node::copy-returns : goal.node::Node::copy-returns
node::Node::copy-returns t c =
    let n = c.args.self.now in
    c.in_ok-node.ensures
    ∙ ap (with_nested (node_view n)) (c.in_ok-nodes.ensures ∙ ap nodes_view c.deref.ensures.value)
    ∙ nested_own n
