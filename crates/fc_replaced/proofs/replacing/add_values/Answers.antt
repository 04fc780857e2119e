use Rattle.std.proofs.Common.{◌≡◌, ◌∙◌, ◌+◌, ◌∷◌, ap, drop, map, sym}
use Rattle.fc_spec.specs.queries.Query.{Query}
use Rattle.fc_spec.specs.requests.Buckets.{value}
use Rattle.fc_spec.specs.requests.Request.{facet, query}
use Rattle.fc_spec.specs.replies.Tops.{key_nodes}
use Rattle.fc_facet.specs.KindView.{terms_view}
use Rattle.fc_request.specs.FacetNode.{facet_view}
use Rattle.fc_request.specs.NodeView.{inner_view, node_view}
use Rattle.fc_replaced.specs.ExactParts.{nodes_over}
use Rattle.fc_replaced.specs.TopsView.{vals_view}
use Rattle.fc_replaced.proofs.Steps.{left_first}
use Rattle.fc_replaced.proofs.replacing.add_values.Goals as goal

pub loop-val-preserved : goal.loop-val-preserved
loop-val-preserved c = λ more.
    let n = c.args.node.now in
    let t = terms_view c.args.terms.now in
    let xs = c.args.vals.now in
    let i = c.loop-val.val-index in
    let item = c.val-item.result in
    let here : drop i xs ≡ item ∷ drop (i + 1) xs = left_first xs i item c.loop-val-test.true c.val-item.is in
    let old = map node_view c.loop-val.nodes.items in
    let behind = key_nodes (facet_view n) t (inner_view n) (map value (vals_view (drop (i + 1) xs))) more in
    c.in_ok-add_query.ensures behind
    ∙ ap (λ (q : Query). nodes_over old (facet (record (facet_view n) { kind = query q }) (inner_view n) behind)) c.in_ok-query.ensures
    ∙ ap (λ vs. nodes_over old (key_nodes (facet_view n) t (inner_view n) (map value (vals_view vs)) more)) (sym here)
    ∙ c.loop-val.invariant more
