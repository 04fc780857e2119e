use Rattle.std.proofs.Common.{◌∙◌, ap, map, sym}
use Rattle.fc_spec.specs.requests.Buckets.{missing, value}
use Rattle.fc_spec.specs.replies.Printed.{asked}
use Rattle.fc_spec.specs.replies.Tops.{key_nodes}
use Rattle.fc_facet.specs.KindView.{terms_view}
use Rattle.fc_request.specs.FacetNode.{facet_view}
use Rattle.fc_request.specs.NodeView.{inner_view, node_view}
use Rattle.fc_replaced.specs.ExactParts.{nodes_over}
use Rattle.fc_replaced.specs.TopsView.{vals_view}
use Rattle.fc_replaced.proofs.ReplacedNodes.{key_nodes-append}
use Rattle.fc_replaced.proofs.replacing.add_keys.Goals as goal

pub returns : goal.returns
returns c = λ more.
    let n = c.args.node.now in
    let t = terms_view c.args.terms.now in
    let values = map value (vals_view c.args.vals.now) in
    let others = asked t.missing missing in
    c.in_ok-add_missing.ensures more
    ∙ c.in_ok-add_values.ensures (key_nodes (facet_view n) t (inner_view n) others more)
    ∙ ap (nodes_over (map node_view c.args.nodes.now.items)) (sym (key_nodes-append (facet_view n) t (inner_view n) values others more))
