-- Nodes among which none excludes tags.
use Rattle.std.proofs.Common.{◌≡◌, ◌∙◌, ◌&&◌, Bool, true, false, refl, ap}
use Rattle.fc_spec.specs.words.Lists.{is_empty}
use Rattle.fc_spec.specs.requests.Request.{no_nodes}
use Rattle.fc_spec.specs.requests.Shape.{no_exclusions}
use Rattle.fc_facet.specs.KindView.{domain_view}
use Rattle.fc_request.specs.declared.node.Node.{Node, out-Node}
use Rattle.fc_request.specs.FacetNode.{has_buckets, kind_of}
use Rattle.fc_request.specs.NodeView.{node_view, inner_view}
use Rattle.fc_request.proofs.Nodes.{before, facet_is}

and_true : (a : Bool) → a && true ≡ a
and_true true = refl
and_true false = refl

-- a facet without tags of its own excludes as those nested in it
pub nested_decide : (n : Node) → has_buckets (kind_of n) ≡ true → is_empty (domain_view (out-Node n).domain).exclude ≡ true
    → no_exclusions (before (node_view n) no_nodes) ≡ no_exclusions (inner_view n)
nested_decide n h none =
    ap no_exclusions (facet_is n h no_nodes)
    ∙ ap (λ own. own && no_exclusions (inner_view n) && true) none
    ∙ and_true (no_exclusions (inner_view n))
