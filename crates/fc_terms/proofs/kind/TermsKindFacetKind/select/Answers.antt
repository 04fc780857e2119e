use Rattle.std.proofs.Common.{◌≡◌, ◌∙◌, sym, ap}
use Rattle.fc_domain.proofs.GroupSets.{on_ok}
use Rattle.fc_facet.specs.KindView.{terms_view}
use Rattle.fc_partial.specs.View.{key_view}
use Rattle.fc_request.specs.FacetNode.{kind_of, kind_view}
use Rattle.fc_segment.specs.Columns.{column_values}
use Rattle.fc_spec.specs.requests.Buckets.{in_terms}
use Rattle.fc_spec.specs.requests.DomainSets.{bucket_set}
use Rattle.fc_spec.specs.requests.Request.{Kind, terms}
use Rattle.fc_terms.specs.Selected.{where_values}
use Rattle.fc_terms.proofs.TermsKeys.{bucket_where}
use Rattle.fc_terms.proofs.kind.TermsKindFacetKind.select.Goals as goal

pub returns-clause-set : goal.returns-clause-set
returns-clause-set c =
    let t = terms_view c.in-Terms.terms in
    let k = key_view c.args.key.now in
    let blocks = c.args.segment.now.blocks in
    let docs = c.args.docs.now in
    let column = column_values c.column.result.now in
    let new = c.select_key.new.into in
    let kind : kind_view (kind_of c.args.node.now) ≡ terms t = ap kind_view c.in-Terms.is in
    on_ok c.select_key.result (new ≡ where_values (in_terms t k) column docs) (new ≡ bucket_set (kind_view (kind_of c.args.node.now)) k blocks docs)
    (λ set. set ∙ bucket_where t k blocks docs column c.column.ensures.values ∙ ap (λ (one : Kind). bucket_set one k blocks docs) (sym kind))
    c.select_key.ensures.set
