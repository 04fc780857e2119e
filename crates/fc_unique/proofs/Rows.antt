-- The row of a facet's buckets, folded and counted.
use Rattle.std.proofs.Common.{◌≡◌, suc, List, [], ◌∷◌, map, length, Option, None, Some, option_map, refl, ap, sym, ◌∙◌}
use Rattle.std.proofs.lemmas.List.{length-map}
use Rattle.fc_spec.specs.requests.Request.{Nodes}
use Rattle.fc_spec.specs.replies.Reply.{Spot, listed, as_missing, as_before, as_between, as_after, Bucket, Row, no_parts, part}
use Rattle.fc_spec.specs.replies.Folded.{folded_bucket, folded_row, listed_in}
use Rattle.fc_reply.specs.ReplyView.{bucket_view, part_over, parts_over, row_view}
use Rattle.fc_reply.specs.declared.reply.ReplyBuckets.{ReplyBuckets, out-ReplyBuckets}

-- ---- how many are in the list

listed_in-parts_over : (bs : List Bucket) (more : Row) → listed_in more ≡ 0 → listed_in (parts_over listed bs more) ≡ length bs
listed_in-parts_over [] more none = none
listed_in-parts_over (b ∷ bs) more none = ap suc (listed_in-parts_over bs more none)

listed_in-part_over : (spot : Spot) → ((b : Bucket) (more : Row) → listed_in (part spot b more) ≡ listed_in more) → (o : Option Bucket) (more : Row) → listed_in (part_over spot o more) ≡ listed_in more
listed_in-part_over spot beside None more = refl
listed_in-part_over spot beside (Some b) more = beside b more

-- ---- folding the parts

folded_row-parts_over : (nodes : Nodes) (spot : Spot) (bs : List Bucket) (more : Row) → folded_row nodes (parts_over spot bs more) ≡ parts_over spot (map (folded_bucket nodes) bs) (folded_row nodes more)
folded_row-parts_over nodes spot [] more = refl
folded_row-parts_over nodes spot (b ∷ bs) more = ap (part spot (folded_bucket nodes b)) (folded_row-parts_over nodes spot bs more)

folded_row-part_over : (nodes : Nodes) (spot : Spot) (o : Option Bucket) (more : Row) → folded_row nodes (part_over spot o more) ≡ part_over spot (option_map (folded_bucket nodes) o) (folded_row nodes more)
folded_row-part_over nodes spot None more = refl
folded_row-part_over nodes spot (Some b) more = refl

-- a list, and the buckets beside it
abbrev pub row_with : List Bucket → (missing before between after : Option Bucket) → Row
row_with list missing before between after =
    parts_over listed list (part_over as_missing missing (part_over as_before before (part_over as_between between (part_over as_after after no_parts))))

listed_in-row_with : (list : List Bucket) (missing before between after : Option Bucket) → listed_in (row_with list missing before between after) ≡ length list
listed_in-row_with list m b t a =
    listed_in-parts_over list _
    (listed_in-part_over as_missing (λ b more. refl) m _ ∙ listed_in-part_over as_before (λ b more. refl) b _
    ∙ listed_in-part_over as_between (λ b more. refl) t _ ∙ listed_in-part_over as_after (λ b more. refl) a no_parts)

pub listed_is : (bs : ReplyBuckets) → length (out-ReplyBuckets bs).list.items ≡ listed_in (row_view bs)
listed_is bs =
    let x = out-ReplyBuckets bs in
    sym (length-map x.list.items bucket_view)
    ∙ sym (listed_in-row_with (map bucket_view x.list.items) (option_map bucket_view x.missing) (option_map bucket_view x.before) (option_map bucket_view x.between) (option_map bucket_view x.after))

pub folded_row-row_with : (nodes : Nodes) (list : List Bucket) (missing before between after : Option Bucket)
    → folded_row nodes (row_with list missing before between after)
    ≡ row_with (map (folded_bucket nodes) list) (option_map (folded_bucket nodes) missing) (option_map (folded_bucket nodes) before) (option_map (folded_bucket nodes) between) (option_map (folded_bucket nodes) after)
folded_row-row_with nodes list m b t a =
    folded_row-parts_over nodes listed list _
    ∙ ap (parts_over listed (map (folded_bucket nodes) list))
    (folded_row-part_over nodes as_missing m _
    ∙ ap (part_over as_missing (option_map (folded_bucket nodes) m)) (folded_row-part_over nodes as_before b _
    ∙ ap (part_over as_before (option_map (folded_bucket nodes) b)) (folded_row-part_over nodes as_between t _
    ∙ ap (part_over as_between (option_map (folded_bucket nodes) t)) (folded_row-part_over nodes as_after a no_parts))))
