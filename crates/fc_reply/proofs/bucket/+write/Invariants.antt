use Rattle.std.proofs.Common.{◌≡◌, ◌++◌, drop, map}
use Rattle.json.specs.Tree.{items_tokens, members_tokens}
use Rattle.serde_json.specs.View.{items_of}
use Rattle.serde_json.specs.Written.{items_outline, members_outline}
use Rattle.fc_spec.specs.replies.Json.{bucket_data}
use Rattle.fc_reply.specs.ReplyView.{bucket_view}
use Rattle.fc_reply.specs.Slots.{slot_members}
use Rattle.fc_reply.proofs.bucket.+write.Given as goal

abbrev pub invariant-write_list-loop-bucket : goal.invariant-write_list-loop-bucket
invariant-write_list-loop-bucket l =
    (l.out.before ≡ l.initial.out.before)
    × (l.out.tokens ++ items_tokens (items_outline (items_of (map bucket_data (map bucket_view (drop l.bucket-index l.buckets)))))
    ≡ l.initial.out.tokens ++ items_tokens (items_outline (items_of (map bucket_data (map bucket_view l.buckets)))))

abbrev pub invariant-write_slots-loop-name : goal.invariant-write_slots-loop-name
invariant-write_slots-loop-name l =
    (l.out.before ≡ l.initial.out.before)
    × (l.out.tokens ++ members_tokens (members_outline (slot_members l.bucket l.name-iterator))
    ≡ l.initial.out.tokens ++ members_tokens (members_outline (slot_members l.bucket l.slots.entries)))
