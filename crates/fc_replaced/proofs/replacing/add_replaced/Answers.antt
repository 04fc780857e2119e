use Rattle.std.proofs.Common.{◌≡◌, ◌∙◌, None, Some, ap, map, option_map, sym}
use Rattle.fc_facet.specs.KindView.{terms_view}
use Rattle.fc_request.specs.FacetNode.{kind_of, kind_view}
use Rattle.fc_request.specs.NodeView.{node_view}
use Rattle.fc_replaced.specs.ExactParts.{exact_of, nodes_over}
use Rattle.fc_replaced.specs.TopsView.{vals_view}
use Rattle.fc_replaced.proofs.ReplacedNodes.{exact_replaced, plain_stays}
use Rattle.fc_replaced.proofs.Steps.{on_ok}
use Rattle.fc_replaced.proofs.replacing.add_replaced.Goals as goal

pub returns-in-Some : goal.returns-in-Some
returns-in-Some c =
    let n = c.args.node.now in
    let t = terms_view c.in-Some.terms.now in
    let there : exact_of (kind_view (kind_of n)) ≡ Some t = sym c.exact_terms.ensures ∙ ap (option_map (λ terms. terms_view terms.now)) c.in-Some.is in
    on_ok c.add_keys.result _ _ (λ added more. added more ∙ ap (nodes_over (map node_view c.args.nodes.now.items)) (sym (exact_replaced n t (vals_view c.args.vals.now) more there))) c.add_keys.ensures

pub returns-in-None : goal.returns-in-None
returns-in-None c =
    let n = c.args.node.now in
    let none : exact_of (kind_view (kind_of n)) ≡ None = sym c.exact_terms.ensures ∙ ap (option_map (λ terms. terms_view terms.now)) c.in-None.is in
    on_ok c.add_same.result _ _ (λ added more. added more ∙ ap (nodes_over (map node_view c.args.nodes.now.items)) (sym (plain_stays n (vals_view c.args.vals.now) more none))) c.add_same.ensures
