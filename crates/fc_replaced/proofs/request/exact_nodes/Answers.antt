use Rattle.std.proofs.Common.{◌≡◌, ◌∙◌, ◌+◌, ◌∷◌, ap, drop, map, sym}
use Rattle.std.proofs.lemmas.List.{drop_all}
use Rattle.fc_spec.specs.replies.Tops.{exact_nodes}
use Rattle.fc_request.specs.NodeView.{node_view, nodes_view}
use Rattle.fc_replaced.specs.ExactParts.{nodes_over}
use Rattle.fc_replaced.proofs.NodesOver.{over_none}
use Rattle.fc_replaced.proofs.Steps.{left_first}
use Rattle.fc_replaced.proofs.request.exact_nodes.Goals as goal

pub loop-node-preserved : goal.loop-node-preserved
loop-node-preserved c =
    let xs = c.args.nodes.now in
    let i = c.loop-node.node-index in
    let item = c.node-item.result in
    let here : drop i xs ≡ item ∷ drop (i + 1) xs = left_first xs i item c.loop-node-test.true c.node-item.is in
    c.in_ok-add_exact.ensures (nodes_view (drop (i + 1) xs))
    ∙ ap (λ ns. nodes_over (map node_view c.loop-node.exact.items) (exact_nodes (nodes_view ns))) (sym here) ∙ c.loop-node.invariant

pub returns : goal.returns
returns c =
    sym (over_none c.loop-node.exact.items)
    ∙ ap (λ ns. nodes_over (map node_view c.loop-node.exact.items) (exact_nodes (nodes_view ns))) (sym (drop_all c.loop-node.node-index c.args.nodes.now c.loop-node-test.false))
    ∙ c.loop-node.invariant
