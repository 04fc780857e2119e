use Rattle.std.proofs.Common.{◌≡◌, ◌++◌, List, drop, map}
use Rattle.fc_spec.specs.requests.Buckets.{Key, value}
use Rattle.fc_spec.specs.requests.Request.{Terms}
use Rattle.fc_spec.specs.replies.Reply.{listed}
use Rattle.fc_spec.specs.replies.Restored.{after_keys, row_from}
use Rattle.fc_reply.specs.ReplyView.{bucket_view, facets_view, parts_over}
use Rattle.fc_replaced.specs.Fronts.{row_if}
use Rattle.fc_replaced.specs.TopsView.{vals_view}
use Rattle.fc_replaced.proofs.row.value_buckets.Given as goal

abbrev pub invariant-loop-val : goal.invariant-loop-val
invariant-loop-val l = record {
  rows : (t : Terms) (keys : List Key)
      → parts_over listed (map bucket_view l.list.items) (row_if l.is_whole t (map value (vals_view (drop l.val-index l.vals)) ++ keys) (facets_view l.left.items))
      ≡ row_from t (map value (vals_view l.vals) ++ keys) (facets_view l.initial.left.items);
  after : after_keys (map value (vals_view (drop l.val-index l.vals))) (facets_view l.left.items) ≡ after_keys (map value (vals_view l.vals)) (facets_view l.initial.left.items);
}
