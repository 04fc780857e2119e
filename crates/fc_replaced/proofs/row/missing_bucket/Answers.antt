use Rattle.std.proofs.Common.{◌∙◌, Bool, None, Some, ap, option_map, sym}
use Rattle.fc_spec.specs.requests.Buckets.{missing}
use Rattle.fc_spec.specs.replies.Printed.{asked}
use Rattle.fc_spec.specs.replies.Restored.{after_keys, with_val}
use Rattle.fc_reply.specs.ReplyView.{bucket_view, facets_view}
use Rattle.fc_replaced.specs.Fronts.{row_if}
use Rattle.fc_replaced.proofs.Rows.{missing_step, row_if-end}
use Rattle.fc_replaced.proofs.row.missing_bucket.Goals as goal

pub returns-then-not-is_asked : goal.returns-then-not-is_asked
returns-then-not-is_asked c =
    let F = facets_view c.args.left.now.items in
    record {
      row = λ t. sym (row_if-end c.args.is_whole t F) ∙ ap (λ (b : Bool). row_if c.args.is_whole t (asked b missing) F) (sym c.if-not-is_asked.true);
      left = ap (λ (b : Bool). after_keys (asked b missing) F) (sym c.if-not-is_asked.true);
    }

pub returns-in-Some : goal.returns-in-Some
returns-in-Some c =
    let F = facets_view c.args.left.now.items in
    let o = option_map bucket_view c.next_bucket.result in
    record {
      row = λ t. missing_step c.args.is_whole t F o (Some (bucket_view c.with_val.result)) c.next_bucket.ensures.bucket (ap Some c.with_val.ensures ∙ ap (λ r. option_map (with_val None) (option_map bucket_view r)) (sym c.in-Some.is))
          ∙ ap (λ (b : Bool). row_if c.args.is_whole t (asked b missing) F) (sym c.if-not-is_asked.false);
      left = c.next_bucket.ensures.left ∙ ap (λ (b : Bool). after_keys (asked b missing) F) (sym c.if-not-is_asked.false);
    }

pub returns-in-None : goal.returns-in-None
returns-in-None c =
    let F = facets_view c.args.left.now.items in
    let o = option_map bucket_view c.next_bucket.result in
    record {
      row = λ t. missing_step c.args.is_whole t F o None c.next_bucket.ensures.bucket (ap (λ r. option_map (with_val None) (option_map bucket_view r)) (sym c.in-None.is))
          ∙ ap (λ (b : Bool). row_if c.args.is_whole t (asked b missing) F) (sym c.if-not-is_asked.false);
      left = c.next_bucket.ensures.left ∙ ap (λ (b : Bool). after_keys (asked b missing) F) (sym c.if-not-is_asked.false);
    }
