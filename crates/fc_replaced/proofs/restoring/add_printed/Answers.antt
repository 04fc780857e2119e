use Rattle.std.proofs.Common.{◌∙◌, ap, map, option_map, sym}
use Rattle.fc_reply.specs.ReplyView.{facet_view, facets_over, facets_view}
use Rattle.fc_spec.specs.replies.Restored.{restored_facets}
use Rattle.fc_spec.specs.replies.Tops.{lists_after}
use Rattle.fc_request.specs.NodeView.{node_view}
use Rattle.fc_replaced.specs.ExactParts.{is_exact}
use Rattle.fc_replaced.specs.Fronts.{facet_over}
use Rattle.fc_reply.proofs.ReplyViews.{facets_over-pushed}
use Rattle.fc_replaced.proofs.restoring.add_printed.Goals as goal

pub returns-in_ok-push-in-Some : goal.returns-in_ok-push-in-Some
returns-in_ok-push-in-Some c = λ rest vss first.
    let done = c.args.made.now.items in
    let behind = restored_facets rest (lists_after (is_exact (node_view c.args.node.now)) vss) c.args.is_empty (facets_view c.printed.new.left.items) in
    facets_over-pushed done c.push.new.self.items c.in-Some.facet behind c.in_ok-push-in-Some.ensures.items
    ∙ ap (facets_over (map facet_view done)) (ap (λ o. facet_over (option_map facet_view o) behind) (sym c.in-Some.is) ∙ c.in_ok-facet.ensures rest vss first)

pub returns-in-None : goal.returns-in-None
returns-in-None c = λ rest vss first.
    let behind = restored_facets rest (lists_after (is_exact (node_view c.args.node.now)) vss) c.args.is_empty (facets_view c.printed.new.left.items) in
    ap (facets_over (map facet_view c.args.made.now.items)) (ap (λ o. facet_over (option_map facet_view o) behind) (sym c.in-None.is) ∙ c.in_ok-facet.ensures rest vss first)
