use Rattle.std.proofs.Common.{◌++◌, ℕ, List, [], ◌∷◌, Bor, map, option_map, codes, refl, sym, ap, ◌∙◌}
use Rattle.json.specs.Token.{Token, begin_array, begin_object, end_object, key}
use Rattle.json.specs.Tree.{items_tokens, members_tokens}
use Rattle.serde_json.specs.Data.{array}
use Rattle.serde_json.specs.View.{items_of}
use Rattle.serde_json.specs.Written.{items_outline, members_outline}
use Rattle.fc_spec.specs.replies.Json.{bucket_data}
use Rattle.fc_reply.specs.declared.reply.ReplyBucket.{ReplyBucket}
use Rattle.fc_reply.specs.declared.reply.ReplyBuckets.{out-ReplyBuckets}
use Rattle.fc_reply.specs.declared.slots.Slot.{Slot}
use Rattle.fc_reply.specs.ReplyView.{bucket_view}
use Rattle.fc_reply.specs.Slots.{slot_data, slot_members}
use Rattle.fc_reply.specs.Tokens.{tokens_of, WritesTokens}
use Rattle.fc_reply.proofs.Appending.{appends_more, left_after, item_written, list_written}
use Rattle.fc_reply.proofs.PutMembers.{body_is}
use Rattle.fc_reply.proofs.ReplyTokens.{beside_tokens, number_tokens, row_tokens}
use Rattle.fc_reply.proofs.bucket.+write.Goals as goal

-- the tokens of a list of buckets behind its bracket
abbrev list_tokens : List ReplyBucket → List Token
list_tokens bs = items_tokens (items_outline (items_of (map bucket_data (map bucket_view bs))))

-- the tokens of a bucket's members behind its brace
abbrev slot_tokens : ReplyBucket → List (Bor (List ℕ) × Slot) → List Token
slot_tokens b es = members_tokens (members_outline (slot_members b es))

pub write_list-loop-bucket-preserved : goal.write_list-loop-bucket-preserved
write_list-loop-bucket-preserved t c =
    let l = c.loop-bucket in
    let b = c.bucket-item.result in (
      c.in_ok-write_bucket.ensures.0 ∙ l.invariant.0,
      item_written list_tokens l.out c.write_bucket.new.out c.args.buckets.now l.bucket-index b (tokens_of (bucket_data (bucket_view b))) _ c.loop-bucket-test.true c.bucket-item.is refl c.in_ok-write_bucket.ensures l.invariant.1,
    )

pub write_list-returns : goal.write_list-returns
write_list-returns t c =
    let l = c.loop-bucket in
    let opened = c.in_ok-begin_array.ensures in
    let closed = c.in_ok-end_array.ensures in
    appends_more c.args.out.now c.begin_array.new.self c.end_array.new.self (begin_array ∷ []) (list_tokens c.args.buckets.now) (opened.room.0, opened.ok)
    (list_written list_tokens c.begin_array.new.self l.out c.end_array.new.self c.args.buckets.now l.bucket-index c.loop-bucket-test.false l.invariant.0 l.invariant.1 (closed.room.0, closed.ok))

pub write_slots-loop-name-preserved : goal.write_slots-loop-name-preserved
write_slots-loop-name-preserved t c =
    let l = c.loop-name in
    let b = c.args.bucket.now in
    let name = c.in-Some.name.now in
    let slot = c.in-Some.slot.now in
    let named = c.in_ok-key.ensures in
    let both : WritesTokens l.out c.write_slot.new.out (key name.now ∷ tokens_of (slot_data b slot)) =
    appends_more l.out c.key.new.self c.write_slot.new.out (key name.now ∷ []) (tokens_of (slot_data b slot)) (named.room.0, named.ok) c.in_ok-write_slot.ensures in (
      both.0 ∙ l.invariant.0,
      left_after l.out c.write_slot.new.out (key name.now ∷ tokens_of (slot_data b slot)) (slot_tokens b c.next.new.self) _ (slot_tokens b l.name-iterator) both (ap (slot_tokens b) c.in-Some.ensures.steps) l.invariant.1,
    )

pub write_slots-returns : goal.write_slots-returns
write_slots-returns t c =
    let l = c.loop-name in
    let b = c.args.bucket.now in
    let opened = c.in_ok-begin_object.ensures in
    let closed = c.in_ok-end_object.ensures in
    appends_more c.args.out.now c.begin_object.new.self c.end_object.new.self (begin_object ∷ []) (slot_tokens b c.args.slots.now.entries) (opened.room.0, opened.ok)
    (closed.room.0 ∙ l.invariant.0, closed.ok ∙ ap (λ es. l.out.tokens ++ slot_tokens b es) (sym c.in-None.ensures.steps.0) ∙ l.invariant.1)

pub write_buckets-returns : goal.write_buckets-returns
write_buckets-returns depth c =
    let row = out-ReplyBuckets c.args.buckets.now in
    let end = c.end_object.new.self in
    let m = option_map bucket_view row.missing in
    let b = option_map bucket_view row.before in
    let t = option_map bucket_view row.between in
    let a = option_map bucket_view row.after in
    let list = items_of (map bucket_data (map bucket_view row.list.items)) in
    let opened = c.in_ok-begin_object.ensures in
    let named = c.in_ok-key.ensures in
    let closed = c.in_ok-end_object.ensures in
    let listed : WritesTokens c.key.new.self c.write_list.new.out (tokens_of (array list)) = (
      c.in_ok-write_list.ensures.0,
      c.in_ok-write_list.ensures.1 ∙ ap (λ bs. c.key.new.self.tokens ++ tokens_of (array (items_of (map bucket_data (map bucket_view bs))))) c.deref.ensures.value,
    ) in
    let last = appends_more c.write_beside-4.new.out c.write_number.new.out end (number_tokens row.number) (end_object ∷ []) c.in_ok-write_number.ensures (closed.room.0, closed.ok) in
    let from_missing = appends_more c.write_list.new.out c.write_beside-4.new.out end (beside_tokens (codes "missing") m) _ c.in_ok-write_beside-4.ensures last in
    let behind = appends_more c.key.new.self c.write_list.new.out end (tokens_of (array list)) _ listed from_missing in
    let inside = appends_more c.write_beside-3.new.out c.key.new.self end (key (codes "buckets") ∷ []) _ (named.room.0, named.ok) behind in
    let from_between = appends_more c.write_beside-2.new.out c.write_beside-3.new.out end (beside_tokens (codes "between") t) _ c.in_ok-write_beside-3.ensures inside in
    let from_before = appends_more c.write_beside.new.out c.write_beside-2.new.out end (beside_tokens (codes "before") b) _ c.in_ok-write_beside-2.ensures from_between in
    let from_after = appends_more c.begin_object.new.self c.write_beside.new.out end (beside_tokens (codes "after") a) _ c.in_ok-write_beside.ensures from_before in
    let whole = appends_more c.args.out.now c.begin_object.new.self end (begin_object ∷ []) _ (opened.room.0, opened.ok) from_after in
    let same = ap tokens_of (body_is c.args.buckets.now) ∙ row_tokens m b t a row.number list in
    (whole.0, whole.1 ∙ ap (λ ts. c.args.out.now.tokens ++ ts) (sym same))
