use Rattle.std.proofs.Common.{◌≡◌, ◌∙◌, ◌+◌, ◌∷◌, ap, drop, map, sym}
use Rattle.std.proofs.lemmas.List.{drop_all}
use Rattle.fc_spec.specs.replies.Tops.{replaced_nodes}
use Rattle.fc_request.specs.NodeView.{node_view, nodes_view}
use Rattle.fc_replaced.specs.ExactParts.{nodes_over}
use Rattle.fc_replaced.specs.TopsView.{tops_view, vals_view}
use Rattle.fc_replaced.proofs.NodesOver.{over_none}
use Rattle.fc_replaced.proofs.ReplacedNodes.{node_replaced}
use Rattle.fc_replaced.proofs.Steps.{left_first}
use Rattle.fc_replaced.proofs.replacing.replaced_nodes.Goals as goal

pub loop-node-preserved : goal.loop-node-preserved
loop-node-preserved c =
    let xs = c.args.nodes.now in
    let i = c.loop-node.node-index in
    let item = c.node-item.result in
    let here : drop i xs ≡ item ∷ drop (i + 1) xs = left_first xs i item c.loop-node-test.true c.node-item.is in
    let old = map node_view c.loop-node.made.items in
    let rest = nodes_view (drop (i + 1) xs) in
    let lists = tops_view c.loop-node.left.now in
    let after = tops_view c.lists_after-left.result.now in
    c.in_ok-add_replaced.ensures (replaced_nodes rest after)
    ∙ ap (nodes_over old) (node_replaced (node_view item) rest lists after (vals_view c.first_list-vals.result.now) c.is_exact.result c.first_list-vals.ensures c.is_exact.ensures c.lists_after-left.ensures)
    ∙ ap (λ ns. nodes_over old (replaced_nodes (nodes_view ns) lists)) (sym here)
    ∙ c.loop-node.invariant

pub returns : goal.returns
returns c =
    let old = map node_view c.loop-node.made.items in
    sym (over_none c.loop-node.made.items)
    ∙ ap (λ ns. nodes_over old (replaced_nodes (nodes_view ns) (tops_view c.loop-node.left.now))) (sym (drop_all c.loop-node.node-index c.args.nodes.now c.loop-node-test.false))
    ∙ c.loop-node.invariant
