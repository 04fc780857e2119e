use Rattle.std.proofs.Common.{◌≡◌, ◌∙◌, ◌+◌, ◌∷◌, ◌++◌, ap, drop, is_some, map, option_map, sym}
use Rattle.fc_spec.specs.requests.Buckets.{value}
use Rattle.fc_spec.specs.replies.Reply.{listed}
use Rattle.fc_spec.specs.replies.Restored.{after_keys}
use Rattle.fc_base.specs.View.{val_view}
use Rattle.fc_reply.specs.ReplyView.{bucket_view, facets_view, parts_over}
use Rattle.fc_replaced.specs.Fronts.{row_if}
use Rattle.fc_replaced.specs.TopsView.{vals_view}
use Rattle.fc_replaced.proofs.Rows.{bucket_step}
use Rattle.fc_replaced.proofs.Steps.{is_some-map, left_first}
use Rattle.fc_replaced.proofs.row.value_buckets.Goals as goal

pub loop-val-preserved : goal.loop-val-preserved
loop-val-preserved c =
    let xs = c.args.vals.now in
    let i = c.loop-val.val-index in
    let item = c.val-item.result in
    let here : drop i xs ≡ item ∷ drop (i + 1) xs = left_first xs i item c.loop-val-test.true c.val-item.is in
    let keys_behind = map value (vals_view (drop (i + 1) xs)) in
    let old = map bucket_view c.loop-val.list.items in
    let F = facets_view c.loop-val.left.items in
    let G = facets_view c.next_bucket-bucket.new.left.items in
    let o = option_map bucket_view c.next_bucket-bucket.result in
    let whole : c.is_some-is_whole.result ≡ is_some o = c.is_some-is_whole.ensures ∙ sym (is_some-map bucket_view c.next_bucket-bucket.result) in
    record {
      rows = λ t keys.
          c.in_ok-add_bucket.ensures (row_if c.is_some-is_whole.result t (keys_behind ++ keys) G)
          ∙ ap (parts_over listed old) (bucket_step c.loop-val.is_whole c.is_some-is_whole.result t (value (val_view item)) (keys_behind ++ keys) F G o c.next_bucket-bucket.ensures.bucket whole c.next_bucket-bucket.ensures.left)
          ∙ ap (λ vs. parts_over listed old (row_if c.loop-val.is_whole t (map value (vals_view vs) ++ keys) F)) (sym here)
          ∙ c.loop-val.invariant.rows t keys;
      after =
          ap (after_keys keys_behind) c.next_bucket-bucket.ensures.left
          ∙ ap (λ vs. after_keys (map value (vals_view vs)) F) (sym here)
          ∙ c.loop-val.invariant.after;
    }
