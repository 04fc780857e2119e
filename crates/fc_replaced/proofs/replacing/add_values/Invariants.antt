use Rattle.std.proofs.Common.{◌≡◌, drop, map}
use Rattle.fc_spec.specs.requests.Buckets.{value}
use Rattle.fc_spec.specs.requests.Request.{Nodes}
use Rattle.fc_spec.specs.replies.Tops.{key_nodes}
use Rattle.fc_facet.specs.KindView.{terms_view}
use Rattle.fc_request.specs.FacetNode.{facet_view}
use Rattle.fc_request.specs.NodeView.{inner_view, node_view}
use Rattle.fc_replaced.specs.ExactParts.{nodes_over}
use Rattle.fc_replaced.specs.TopsView.{vals_view}
use Rattle.fc_replaced.proofs.replacing.add_values.Given as goal

abbrev pub invariant-loop-val : goal.invariant-loop-val
invariant-loop-val l = (more : Nodes)
    → nodes_over (map node_view l.nodes.items) (key_nodes (facet_view l.node) (terms_view l.terms) (inner_view l.node) (map value (vals_view (drop l.val-index l.vals))) more)
    ≡ nodes_over (map node_view l.initial.nodes.items) (key_nodes (facet_view l.node) (terms_view l.terms) (inner_view l.node) (map value (vals_view l.vals)) more)
