use Rattle.std.proofs.Common.{◌≡◌, drop}
use Rattle.fc_spec.specs.replies.Json.{put_facets}
use Rattle.fc_reply.specs.declared.reply.ReplyBucket.{out-ReplyBucket}
use Rattle.fc_reply.specs.ReplyView.{facets_view}
use Rattle.fc_reply.specs.Slots.{slot_members}
use Rattle.fc_reply.proofs.slots.put_facets.Given as goal

abbrev pub invariant-loop-at : goal.invariant-loop-at
invariant-loop-at l =
    put_facets (facets_view (drop l.at (out-ReplyBucket l.bucket).facets.items)) (slot_members l.bucket l.slots.entries)
    ≡ put_facets (facets_view (out-ReplyBucket l.bucket).facets.items) (slot_members l.bucket l.initial.slots.entries)
