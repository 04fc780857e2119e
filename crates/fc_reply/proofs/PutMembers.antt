-- The members that the buckets of a facet put.
use Rattle.std.proofs.Common.{◌≡◌, ℕ, List, [], ◌∷◌, map, Option, None, Some, option_map, codes, refl, ap, ◌∙◌}
use Rattle.serde_json.specs.Data.{Data, array, object, Items, no_items, item, Members, no_members, put}
use Rattle.serde_json.specs.View.{items_of}
use Rattle.fc_spec.specs.documents.Val.{Text}
use Rattle.fc_spec.specs.replies.Reply.{Spot, listed, as_missing, as_before, as_between, as_after, Bucket, Row, no_parts}
use Rattle.fc_spec.specs.replies.Json.{natural_data, bucket_data, item_at, put_beside, listed_items, put_row}
use Rattle.fc_reply.specs.ReplyView.{PutBody, bucket_view, buckets_view, part_over, parts_over, row_body}
use Rattle.fc_reply.specs.Slots.{body_data}
use Rattle.fc_reply.specs.declared.reply.ReplyBuckets.{ReplyBuckets, out-ReplyBuckets}
use Rattle.fc_reply.proofs.ReplyViews.{view_of_buckets}

-- the members with a bucket by this name, where it is there
abbrev pub put_bucket : Text → Option Bucket → Members → Members
put_bucket name None ms = ms
put_bucket name (Some b) ms = put name (bucket_data b) ms

-- and with the number of buckets, where it is there
abbrev pub put_number : Option ℕ → Members → Members
put_number None ms = ms
put_number (Some n) ms = put (codes "numBuckets") (natural_data n) ms

body_data-row_body : (n : Option ℕ) (row : Row) → body_data (row_body n row) ≡ object (put_row row (put_number n (put (codes "buckets") (array (listed_items row)) no_members)))
body_data-row_body None row = refl
body_data-row_body (Some n) row = refl

put_row-part_over : (spot : Spot) (name : Text) → ((d : Data) (ms : Members) → put_beside spot d ms ≡ put name d ms) → (o : Option Bucket) (more : Row) (ms : Members)
    → put_row (part_over spot o more) ms ≡ put_row more (put_bucket name o ms)
put_row-part_over spot name is None more ms = refl
put_row-part_over spot name is (Some b) more ms = ap (put_row more) (is (bucket_data b) ms)

put_row-parts_over : (bs : List Bucket) (more : Row) (ms : Members) → put_row (parts_over listed bs more) ms ≡ put_row more ms
put_row-parts_over [] more ms = refl
put_row-parts_over (b ∷ bs) more ms = put_row-parts_over bs more ms

listed_items-part_over : (spot : Spot) → ((d : Data) (ds : Items) → item_at spot d ds ≡ ds) → (o : Option Bucket) (more : Row) → listed_items (part_over spot o more) ≡ listed_items more
listed_items-part_over spot is None more = refl
listed_items-part_over spot is (Some b) more = is (bucket_data b) (listed_items more)

listed_items-parts_over : (bs : List Bucket) (more : Row) → listed_items more ≡ no_items → listed_items (parts_over listed bs more) ≡ items_of (map bucket_data bs)
listed_items-parts_over [] more none = none
listed_items-parts_over (b ∷ bs) more none = ap (item (bucket_data b)) (listed_items-parts_over bs more none)

-- the buckets beside a list
abbrev beside : (missing before between after : Option Bucket) → Row
beside missing before between after = part_over as_missing missing (part_over as_before before (part_over as_between between (part_over as_after after no_parts)))

no_items_beside : (missing before between after : Option Bucket) → listed_items (beside missing before between after) ≡ no_items
no_items_beside missing before between after =
    listed_items-part_over as_missing (λ d ds. refl) missing _ ∙ listed_items-part_over as_before (λ d ds. refl) before _
    ∙ listed_items-part_over as_between (λ d ds. refl) between _ ∙ listed_items-part_over as_after (λ d ds. refl) after _

put_row-beside : (missing before between after : Option Bucket) (ms : Members)
    → put_row (beside missing before between after) ms
    ≡ put_bucket (codes "after") after (put_bucket (codes "between") between (put_bucket (codes "before") before (put_bucket (codes "missing") missing ms)))
put_row-beside missing before between after ms =
    put_row-part_over as_missing (codes "missing") (λ d ms. refl) missing _ _ ∙ put_row-part_over as_before (codes "before") (λ d ms. refl) before _ _
    ∙ put_row-part_over as_between (codes "between") (λ d ms. refl) between _ _ ∙ put_row-part_over as_after (codes "after") (λ d ms. refl) after _ _

-- the buckets of a facet: their list, their number, and the buckets beside the list
pub body_is : (bs : ReplyBuckets) → body_data (buckets_view bs)
    ≡ object (put_bucket (codes "after") (option_map bucket_view (out-ReplyBuckets bs).after) (put_bucket (codes "between") (option_map bucket_view (out-ReplyBuckets bs).between) (put_bucket (codes "before") (option_map bucket_view (out-ReplyBuckets bs).before)
    (put_bucket (codes "missing") (option_map bucket_view (out-ReplyBuckets bs).missing) (put_number (out-ReplyBuckets bs).number (put (codes "buckets") (array (items_of (map bucket_data (map bucket_view (out-ReplyBuckets bs).list.items)))) no_members))))))
body_is bs =
    let list = map bucket_view (out-ReplyBuckets bs).list.items in
    let m = option_map bucket_view (out-ReplyBuckets bs).missing in
    let b = option_map bucket_view (out-ReplyBuckets bs).before in
    let t = option_map bucket_view (out-ReplyBuckets bs).between in
    let a = option_map bucket_view (out-ReplyBuckets bs).after in
    let n = (out-ReplyBuckets bs).number in
    let row = parts_over listed list (beside m b t a) in
    let in_list = λ (ds : Items). put_number n (put (codes "buckets") (array ds) no_members) in
    ap (λ (body : PutBody). body_data body) (view_of_buckets bs)
    ∙ body_data-row_body n row
    ∙ ap (λ (ms : Members). object ms)
    (put_row-parts_over list (beside m b t a) (in_list (listed_items row))
    ∙ put_row-beside m b t a (in_list (listed_items row))
    ∙ ap (λ ds. put_bucket (codes "after") a (put_bucket (codes "between") t (put_bucket (codes "before") b (put_bucket (codes "missing") m (in_list ds)))))
    (listed_items-parts_over list (beside m b t a) (no_items_beside m b t a)))
