use Rattle.std.proofs.Common.{◌∙◌, None, ap, map, sym}
use Rattle.fc_spec.specs.requests.Buckets.{missing, value}
use Rattle.fc_spec.specs.replies.Printed.{asked}
use Rattle.fc_spec.specs.replies.Reply.{listed, Row}
use Rattle.fc_spec.specs.replies.Restored.{after_keys}
use Rattle.fc_facet.specs.KindView.{terms_view}
use Rattle.fc_reply.specs.ReplyView.{bucket_view, facets_view, parts_over, row_body}
use Rattle.fc_reply.proofs.ReplyViews.{view_of_made_buckets}
use Rattle.fc_replaced.specs.TopsView.{vals_view}
use Rattle.fc_replaced.proofs.Rows.{after_keys-append}
use Rattle.fc_replaced.proofs.row.row.Goals as goal

pub returns : goal.returns
returns c =
    let t = terms_view c.args.terms.now in
    let values = map value (vals_view c.args.vals.now) in
    let others = asked t.missing missing in
    let F = facets_view c.args.left.now.items in
    record {
      row =
          view_of_made_buckets _ ∙ ap (λ (beside : Row). row_body None (parts_over listed (map bucket_view c.in_ok-list.list.items) beside)) (c.missing_bucket-missing.ensures.row t)
          ∙ ap (row_body None) (c.in_ok-list.ensures.row t others);
      left = c.missing_bucket-missing.ensures.left ∙ ap (after_keys others) c.in_ok-list.ensures.left ∙ sym (after_keys-append values others F);
    }
