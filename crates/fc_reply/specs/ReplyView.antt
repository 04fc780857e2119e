-- What reply trees stand for in the definitions.
use Rattle.std.specs.Prelude.{ℕ, List, [], ◌∷◌, Option, None, Some, map, option_map}
use Rattle.fc_spec.specs.replies.Reply as definition
use Rattle.fc_spec.specs.replies.Folded.{with_count}
use Rattle.fc_spec.specs.documents.Val.{Text}
use Rattle.fc_base.specs.View.{val_view}
use Rattle.fc_reply.specs.declared.reply.Reply.{Reply}
use Rattle.fc_reply.specs.declared.reply.ReplyBucket.{ReplyBucket}
use Rattle.fc_reply.specs.declared.reply.ReplyFacet.{ReplyFacet}
use Rattle.fc_reply.specs.declared.reply.ReplyBody.{ReplyBody}
use Rattle.fc_reply.specs.declared.reply.ReplyBuckets.{ReplyBuckets, out-ReplyBuckets}
use Rattle.fc_reply.specs.declared.reply.ReplyBody.TheOpen.{ReplyBucket-F, ReplyFacet-F, ReplyBody-F, Number, Many, One, ReplyBuckets-F}
use Rattle.fc_reply.specs.declared.reply.ReplyBody.TheFolds.{fold-ReplyBucket, fold-ReplyFacet, fold-ReplyBody, fold-ReplyBuckets}

-- what a facet, and what is in it, puts before those after it
abbrev pub PutFacet : Type 0
PutFacet = definition.Facets → definition.Facets

abbrev pub PutBody : Type 0
PutBody = Text → definition.Facets → definition.Facets

-- facets before others
abbrev pub facets_over : List PutFacet → definition.Facets → definition.Facets
facets_over [] more = more
facets_over (f ∷ fs) more = f (facets_over fs more)

-- a facet before others, where it is there
abbrev pub facet_over : Option PutFacet → definition.Facets → definition.Facets
facet_over None more = more
facet_over (Some put) more = put more

-- buckets of one spot before others
abbrev pub parts_over : definition.Spot → List definition.Bucket → definition.Row → definition.Row
parts_over spot [] more = more
parts_over spot (b ∷ bs) more = definition.part spot b (parts_over spot bs more)

-- a bucket before others, where it is there
abbrev pub part_over : definition.Spot → Option definition.Bucket → definition.Row → definition.Row
part_over spot None more = more
part_over spot (Some b) more = definition.part spot b more

-- a row of buckets, with their number beside it, where it is there
abbrev pub row_body : Option ℕ → definition.Row → PutBody
row_body n row name more = with_count n (definition.many name row more)

abbrev pub bucket_step : ReplyBucket-F PutBody definition.Bucket PutBody PutFacet → definition.Bucket
bucket_step b = definition.bucket (option_map val_view b.val) b.count (facets_over b.facets.items definition.no_facets)

abbrev pub facet_step : ReplyFacet-F PutBody definition.Bucket PutBody PutFacet → PutFacet
facet_step f = f.body f.name

abbrev pub body_step : ReplyBody-F PutBody definition.Bucket PutBody PutFacet → PutBody
body_step (Number n) name more = definition.number name n more
body_step (Many put) name more = put name more
body_step (One b) name more = definition.one name b more

abbrev pub row_step : ReplyBuckets-F PutBody definition.Bucket PutBody PutFacet → definition.Row
row_step bs =
    parts_over definition.listed bs.list.items (part_over definition.as_missing bs.missing
    (part_over definition.as_before bs.before (part_over definition.as_between bs.between (part_over definition.as_after bs.after definition.no_parts))))

abbrev pub buckets_step : ReplyBuckets-F PutBody definition.Bucket PutBody PutFacet → PutBody
buckets_step bs = row_body bs.number (row_step bs)

abbrev pub bucket_view : ReplyBucket → definition.Bucket
bucket_view = fold-ReplyBucket PutBody definition.Bucket PutBody PutFacet body_step bucket_step buckets_step facet_step

abbrev pub facet_view : ReplyFacet → PutFacet
facet_view = fold-ReplyFacet PutBody definition.Bucket PutBody PutFacet body_step bucket_step buckets_step facet_step

abbrev pub body_view : ReplyBody → PutBody
body_view = fold-ReplyBody PutBody definition.Bucket PutBody PutFacet body_step bucket_step buckets_step facet_step

abbrev pub buckets_view : ReplyBuckets → PutBody
buckets_view = fold-ReplyBuckets PutBody definition.Bucket PutBody PutFacet body_step bucket_step buckets_step facet_step

-- the row of these fields, and that of a facet's buckets, without their number
abbrev pub row_of : ReplyBuckets-F ReplyBody ReplyBucket ReplyBuckets ReplyFacet → definition.Row
row_of x =
    parts_over definition.listed (map bucket_view x.list.items) (part_over definition.as_missing (option_map bucket_view x.missing) (part_over definition.as_before (option_map bucket_view x.before)
    (part_over definition.as_between (option_map bucket_view x.between) (part_over definition.as_after (option_map bucket_view x.after) definition.no_parts))))

abbrev pub row_view : ReplyBuckets → definition.Row
row_view bs = row_of (out-ReplyBuckets bs)

abbrev pub facets_view : List ReplyFacet → definition.Facets
facets_view fs = facets_over (map facet_view fs) definition.no_facets

abbrev pub reply_view : Reply → definition.Bucket
reply_view r = bucket_view r.root
