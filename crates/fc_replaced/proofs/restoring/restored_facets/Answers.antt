use Rattle.std.proofs.Common.{◌≡◌, ◌∙◌, ◌+◌, ◌∷◌, ap, drop, map, sym}
use Rattle.fc_spec.specs.replies.Restored.{restored_facets}
use Rattle.fc_spec.specs.replies.Tops.{lists_after}
use Rattle.fc_reply.specs.ReplyView.{facet_view, facets_over, facets_view}
use Rattle.fc_request.specs.NodeView.{nodes_view}
use Rattle.fc_replaced.specs.TopsView.{tops_view}
use Rattle.fc_replaced.proofs.Steps.{left_first}
use Rattle.fc_replaced.proofs.restoring.restored_facets.Goals as goal

pub loop-node-preserved : goal.loop-node-preserved
loop-node-preserved c =
    let xs = c.args.nodes.now in
    let i = c.loop-node.node-index in
    let item = c.node-item.result in
    let here : drop i xs ≡ item ∷ drop (i + 1) xs = left_first xs i item c.loop-node-test.true c.node-item.is in
    let empty = c.args.is_empty in
    let rest = nodes_view (drop (i + 1) xs) in
    let lists = tops_view c.loop-node.lists.now in
    let F = facets_view c.loop-node.left.items in
    let G = facets_view c.add_printed.new.left.items in
    ap (λ after. facets_over (map facet_view c.add_printed.new.made.items) (restored_facets rest after empty G)) (c.lists_after-lists.ensures ∙ ap (λ b. lists_after b lists) c.is_exact.ensures)
    ∙ c.in_ok-add_printed.ensures rest lists (sym c.first_list-vals.ensures)
    ∙ ap (λ ns. facets_over (map facet_view c.loop-node.made.items) (restored_facets (nodes_view ns) lists empty F)) (sym here)
    ∙ c.loop-node.invariant
