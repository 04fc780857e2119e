use Rattle.std.proofs.Common.{◌∙◌, ap}
use Rattle.fc_spec.specs.documents.Val.{Text}
use Rattle.fc_spec.specs.replies.Reply.{many}
use Rattle.fc_spec.specs.replies.Restored.{row_from}
use Rattle.fc_spec.specs.replies.Tops.{top_keys}
use Rattle.fc_facet.specs.KindView.{terms_view}
use Rattle.fc_reply.specs.ReplyView.{PutBody, facets_view}
use Rattle.fc_reply.proofs.ReplyViews.{view_of_made_facet, view_of_many}
use Rattle.fc_replaced.specs.TopsView.{vals_view}
use Rattle.fc_replaced.proofs.restoring.exact_facet.Goals as goal

pub returns-clause-facet : goal.returns-clause-facet
returns-clause-facet c = λ more.
    let t = terms_view c.args.terms.now in
    let row = row_from t (top_keys t (vals_view c.args.vals.now)) (facets_view c.args.left.now.items) in
    view_of_made_facet _ more ∙ view_of_many c.in_ok-row.row c.in_ok-copy.field-0 more
    ∙ ap (λ (put : PutBody). put c.in_ok-copy.field-0 more) c.in_ok-row.ensures.row
    ∙ ap (λ (name : Text). many name row more) c.in_ok-copy.ensures
