use Rattle.std.proofs.Common.{◌∙◌, ap, is_some, sym}
use Rattle.fc_facet.specs.KindView.{terms_view}
use Rattle.fc_request.specs.FacetNode.{kind_of, kind_view}
use Rattle.fc_replaced.proofs.ExactKinds.{exact_is, is_exact_by}
use Rattle.fc_replaced.proofs.Steps.{is_some-map}
use Rattle.fc_replaced.proofs.request.is_exact.Goals as goal

pub returns : goal.returns
returns c =
    let n = c.args.node.now in
    c.is_some.ensures ∙ sym (is_some-map (λ terms. terms_view terms.now) c.exact_terms.result) ∙ ap is_some c.exact_terms.ensures ∙ sym (is_exact_by (kind_view (kind_of n))) ∙ sym (exact_is n)
