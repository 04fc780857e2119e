use Rattle.std.proofs.Common.{◌≡◌, ◌∙◌, ap, map, sym}
use Rattle.fc_spec.specs.requests.Request.{no_nodes}
use Rattle.fc_spec.specs.replies.Tops.{exact_nodes}
use Rattle.fc_request.specs.Nested.{with_nested}
use Rattle.fc_request.specs.NodeView.{Part, node_view, nodes_view}
use Rattle.fc_request.proofs.Nodes.{before}
use Rattle.fc_replaced.specs.ExactParts.{nodes_over}
use Rattle.fc_replaced.proofs.NodesOver.{over_pushed}
use Rattle.fc_replaced.proofs.OnlyExact.{exact_kept, plain_left}
use Rattle.fc_replaced.proofs.request.add_exact.Goals as goal

pub returns-then-not-is_exact : goal.returns-then-not-is_exact
returns-then-not-is_exact c = λ rest.
    ap (nodes_over (map node_view c.args.exact.now.items)) (sym (plain_left (node_view c.args.node.now) rest (sym c.is_exact.ensures ∙ c.if-not-is_exact.true)))

pub returns : goal.returns
returns c = λ rest.
    let p = node_view c.args.node.now in
    let done = c.args.exact.now.items in
    let bare = c.in_ok-bare.bare in
    let nested : node_view bare ≡ with_nested p no_nodes = c.in_ok-bare.ensures ∙ ap (λ ns. with_nested p (nodes_view ns)) c.new.ensures.items in
    over_pushed done c.push.new.self.items bare (exact_nodes rest) c.in_ok-push.ensures.items
    ∙ ap (λ (q : Part). nodes_over (map node_view done) (before q (exact_nodes rest))) nested
    ∙ ap (nodes_over (map node_view done)) (sym (exact_kept p rest (sym c.is_exact.ensures ∙ c.if-not-is_exact.false)))
