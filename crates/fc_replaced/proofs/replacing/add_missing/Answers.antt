use Rattle.std.proofs.Common.{◌∙◌, Bool, ap, map, sym}
use Rattle.fc_spec.specs.queries.Query.{Query}
use Rattle.fc_spec.specs.requests.Buckets.{missing}
use Rattle.fc_spec.specs.requests.Request.{facet, query}
use Rattle.fc_spec.specs.replies.Printed.{asked}
use Rattle.fc_spec.specs.replies.Tops.{key_nodes}
use Rattle.fc_facet.specs.KindView.{terms_view}
use Rattle.fc_request.specs.FacetNode.{facet_view}
use Rattle.fc_request.specs.NodeView.{inner_view, node_view}
use Rattle.fc_replaced.specs.ExactParts.{nodes_over}
use Rattle.fc_replaced.proofs.replacing.add_missing.Goals as goal

pub returns-then-not-terms : goal.returns-then-not-terms
returns-then-not-terms c = λ more.
    let n = c.args.node.now in
    let t = terms_view c.args.terms.now in
    ap (λ (b : Bool). nodes_over (map node_view c.args.nodes.now.items) (key_nodes (facet_view n) t (inner_view n) (asked b missing) more)) (sym c.if-not-terms.true)

pub returns : goal.returns
returns c = λ more.
    let n = c.args.node.now in
    let t = terms_view c.args.terms.now in
    let old = map node_view c.args.nodes.now.items in
    c.in_ok-add_query.ensures more
    ∙ ap (λ (q : Query). nodes_over old (facet (record (facet_view n) { kind = query q }) (inner_view n) more)) c.in_ok-query.ensures
    ∙ ap (λ (b : Bool). nodes_over old (key_nodes (facet_view n) t (inner_view n) (asked b missing) more)) (sym c.if-not-terms.false)
