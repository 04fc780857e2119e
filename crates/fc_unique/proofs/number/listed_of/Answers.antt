use Rattle.std.proofs.Common.{◌∙◌, Some, ap, sym}
use Rattle.fc_spec.specs.requests.Request.{number_beside}
use Rattle.fc_spec.specs.replies.Folded.{number_for}
use Rattle.fc_reply.specs.declared.reply.ReplyBody.{ReplyBody}
use Rattle.fc_reply.specs.declared.reply.ReplyFacet.{out-ReplyFacet}
use Rattle.fc_reply.specs.ReplyView.{PutBody, body_view, row_body, row_view}
use Rattle.fc_reply.proofs.ReplyViews.{view_of_buckets, view_of_facet, view_of_many}
use Rattle.fc_unique.proofs.number.listed_of.Goals as goal

pub returns-in-None : goal.returns-in-None
returns-in-None c = λ more.
    let f = out-ReplyFacet c.args.facet.now in
    let bs = c.in-Many.buckets in
    ap Some
    c.listed_in.ensures.count
    ∙ ap (λ n. number_for number_beside (row_body n (row_view bs) f.name more)) (sym c.in-None.is)
    ∙ ap (λ (put : PutBody). number_for number_beside (put f.name more)) (sym (view_of_buckets bs))
    ∙ ap (number_for number_beside) (sym (view_of_many bs f.name more))
    ∙ ap (λ (body : ReplyBody). number_for number_beside (body_view body f.name more)) (sym c.in-Many.is)
    ∙ ap (number_for number_beside) (sym (view_of_facet c.args.facet.now more))
