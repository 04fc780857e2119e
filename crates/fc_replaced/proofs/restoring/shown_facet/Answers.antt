use Rattle.std.proofs.Common.{◌≡◌, ◌∙◌, None, Some, ap, option_map, sym}
use Rattle.fc_facet.specs.KindView.{terms_view}
use Rattle.fc_reply.specs.ReplyView.{facets_view}
use Rattle.fc_request.specs.FacetNode.{facet_view, kind_of, kind_view}
use Rattle.fc_replaced.specs.ExactParts.{exact_of}
use Rattle.fc_replaced.specs.TopsView.{vals_view}
use Rattle.fc_replaced.proofs.RestoredNodes.{exact_after, exact_restored, plain_after, plain_restored}
use Rattle.fc_replaced.proofs.restoring.shown_facet.Goals as goal

pub returns-in_ok-facet-in-Some : goal.returns-in_ok-facet-in-Some
returns-in_ok-facet-in-Some c =
    let n = c.args.node.now in
    let kind = kind_view (kind_of n) in
    let t = terms_view c.in-Some.terms.now in
    let vs = vals_view c.args.vals.now in
    let F = facets_view c.args.left.now.items in
    let there : exact_of kind ≡ Some t = sym c.exact_terms.ensures ∙ ap (option_map (λ terms. terms_view terms.now)) c.in-Some.is in
    record {
      facet = λ more. c.in_ok-facet-in-Some.ensures.facet more ∙ sym (exact_restored kind t (facet_view n).name vs F more there);
      left = c.in_ok-facet-in-Some.ensures.left ∙ sym (exact_after kind t vs F there);
    }

pub returns-in-None : goal.returns-in-None
returns-in-None c =
    let n = c.args.node.now in
    let kind = kind_view (kind_of n) in
    let vs = vals_view c.args.vals.now in
    let F = facets_view c.args.left.now.items in
    let none : exact_of kind ≡ None = sym c.exact_terms.ensures ∙ ap (option_map (λ terms. terms_view terms.now)) c.in-None.is in
    record {
      facet = λ more. c.next_facet.ensures.facet more ∙ sym (plain_restored kind (facet_view n).name vs F more none);
      left = c.next_facet.ensures.left ∙ sym (plain_after kind vs F none);
    }
