-- What buckets and facets stand for, as they are read and as they are made.
use Rattle.std.proofs.Common.{◌≡◌, ℤ, List, [], ◌∷◌, ◌++◌, map, Option, None, Some, option_map, refl, ap, ◌∙◌}
use Rattle.fc_spec.specs.documents.Val.{Text}
use Rattle.fc_spec.specs.replies.Reply as definition
use Rattle.fc_base.specs.View.{val_view}
use Rattle.fc_reply.specs.declared.reply.ReplyBody as reply
use Rattle.fc_reply.specs.declared.reply.ReplyBody.{ReplyBody, Number, Many, One, out-ReplyBody}
use Rattle.fc_reply.specs.declared.reply.ReplyBody.TheFolds.{fold-roll-ReplyBody, fold-roll-ReplyBucket, fold-roll-ReplyBuckets, fold-roll-ReplyFacet, fold_out-ReplyBody, fold_out-ReplyBucket, fold_out-ReplyBuckets, fold_out-ReplyFacet, map-ReplyBody, map-ReplyBuckets}
use Rattle.fc_reply.specs.declared.reply.ReplyBody.TheOpen.{ReplyBody-F, ReplyBucket-F, ReplyBuckets-F, ReplyFacet-F}
use Rattle.fc_reply.specs.declared.reply.ReplyBody.TheOpen as opened
use Rattle.fc_reply.specs.declared.reply.ReplyBody.TheShapes.{former-ReplyBuckets-missing}
use Rattle.fc_reply.specs.declared.reply.ReplyBucket.{ReplyBucket, out-ReplyBucket, roll-ReplyBucket}
use Rattle.fc_reply.specs.declared.reply.ReplyBuckets.{ReplyBuckets, out-ReplyBuckets, roll-ReplyBuckets}
use Rattle.fc_reply.specs.declared.reply.ReplyFacet.{ReplyFacet, out-ReplyFacet, roll-ReplyFacet}
use Rattle.fc_reply.specs.ReplyView.{PutBody, PutFacet, body_step, bucket_step, buckets_step, facet_step, bucket_view, facet_view, body_view, buckets_view, facets_over, facets_view, parts_over, part_over, row_body, row_of, row_view}

-- ---- a bucket

abbrev pub BucketFields : Type 0
BucketFields = ReplyBucket-F ReplyBody ReplyBucket ReplyBuckets ReplyFacet

abbrev pub bucket_of : BucketFields → definition.Bucket
bucket_of x = definition.bucket (option_map val_view x.val) x.count (facets_view x.facets.items)

pub view_of_bucket : (b : ReplyBucket) → bucket_view b ≡ bucket_of (out-ReplyBucket b)
view_of_bucket b = fold_out-ReplyBucket PutBody definition.Bucket PutBody PutFacet body_step bucket_step buckets_step facet_step b

pub view_of_made_bucket : (x : BucketFields) → bucket_view (roll-ReplyBucket x) ≡ bucket_of x
view_of_made_bucket x = fold-roll-ReplyBucket PutBody definition.Bucket PutBody PutFacet body_step bucket_step buckets_step facet_step x

-- ---- the buckets of a facet

-- a bucket beside a list
abbrev beside : Option ReplyBucket → Option definition.Bucket
beside = (former-ReplyBuckets-missing).map ReplyBucket definition.Bucket bucket_view

beside_is : (o : Option ReplyBucket) → beside o ≡ option_map bucket_view o
beside_is None = refl
beside_is (Some b) = refl

abbrev pub BucketsFields : Type 0
BucketsFields = ReplyBuckets-F ReplyBody ReplyBucket ReplyBuckets ReplyFacet

fields_are : (x : BucketsFields)
    → buckets_step (map-ReplyBuckets ReplyBody ReplyBucket ReplyBuckets ReplyFacet PutBody definition.Bucket PutBody PutFacet body_view bucket_view buckets_view facet_view x) ≡ row_body x.number (row_of x)
fields_are x =
    λ i. row_body x.number (parts_over definition.listed (map bucket_view x.list.items) (part_over definition.as_missing (beside_is x.missing i) (part_over definition.as_before (beside_is x.before i)
    (part_over definition.as_between (beside_is x.between i) (part_over definition.as_after (beside_is x.after i) definition.no_parts)))))

pub view_of_buckets : (bs : ReplyBuckets) → buckets_view bs ≡ row_body (out-ReplyBuckets bs).number (row_view bs)
view_of_buckets bs = fold_out-ReplyBuckets PutBody definition.Bucket PutBody PutFacet body_step bucket_step buckets_step facet_step bs ∙ fields_are (out-ReplyBuckets bs)

pub view_of_made_buckets : (x : BucketsFields) → buckets_view (roll-ReplyBuckets x) ≡ row_body x.number (row_of x)
view_of_made_buckets x = fold-roll-ReplyBuckets PutBody definition.Bucket PutBody PutFacet body_step bucket_step buckets_step facet_step x ∙ fields_are x

-- ---- a facet, by its name and its body

pub view_of_facet : (f : ReplyFacet) (more : definition.Facets) → facet_view f more ≡ body_view (out-ReplyFacet f).body (out-ReplyFacet f).name more
view_of_facet f more = ap (λ (put : PutFacet). put more) (fold_out-ReplyFacet PutBody definition.Bucket PutBody PutFacet body_step bucket_step buckets_step facet_step f)

pub view_of_made_facet : (x : ReplyFacet-F ReplyBody ReplyBucket ReplyBuckets ReplyFacet) (more : definition.Facets) → facet_view (roll-ReplyFacet x) more ≡ body_view x.body x.name more
view_of_made_facet x more = ap (λ (put : PutFacet). put more) (fold-roll-ReplyFacet PutBody definition.Bucket PutBody PutFacet body_step bucket_step buckets_step facet_step x)

-- ---- a body, as it is read and as it is made

abbrev pub Open : Type 0
Open = ReplyBody-F ReplyBody ReplyBucket ReplyBuckets ReplyFacet

abbrev pub seen : Open → PutBody
seen x = body_step (map-ReplyBody ReplyBody ReplyBucket ReplyBuckets ReplyFacet PutBody definition.Bucket PutBody PutFacet body_view bucket_view buckets_view facet_view x)

pub view_of_body : (r : ReplyBody) → body_view r ≡ seen (out-ReplyBody r)
view_of_body r = fold_out-ReplyBody PutBody definition.Bucket PutBody PutFacet body_step bucket_step buckets_step facet_step r

pub view_of_number : (n : ℤ) (name : Text) (more : definition.Facets) → body_view (Number n) name more ≡ definition.number name n more
unfolding reply.roll-ReplyBody denote.Hole.Carrier.roll
view_of_number n name more =
    ap (λ (body : PutBody). body name more) (fold-roll-ReplyBody PutBody definition.Bucket PutBody PutFacet body_step bucket_step buckets_step facet_step (opened.Number n))

pub view_of_one : (b : ReplyBucket) (name : Text) (more : definition.Facets) → body_view (One b) name more ≡ definition.one name (bucket_view b) more
unfolding reply.roll-ReplyBody denote.Hole.Carrier.roll
view_of_one b name more =
    ap (λ (body : PutBody). body name more) (fold-roll-ReplyBody PutBody definition.Bucket PutBody PutFacet body_step bucket_step buckets_step facet_step (opened.One b))

pub view_of_many : (bs : ReplyBuckets) (name : Text) (more : definition.Facets) → body_view (Many bs) name more ≡ buckets_view bs name more
unfolding reply.roll-ReplyBody denote.Hole.Carrier.roll
view_of_many bs name more =
    ap (λ (body : PutBody). body name more) (fold-roll-ReplyBody PutBody definition.Bucket PutBody PutFacet body_step bucket_step buckets_step facet_step (opened.Many bs))

-- one more facet at the end
pub facets_over-pushed : (done made : List ReplyFacet) (f : ReplyFacet) (more : definition.Facets) → made ≡ done ++ f ∷ [] → facets_over (map facet_view made) more ≡ facets_over (map facet_view done) (facet_view f more)
facets_over-pushed done made f more h = ap (λ fs. facets_over (map facet_view fs) more) h ∙ go done where
  go : (ds : List ReplyFacet) → facets_over (map facet_view (ds ++ f ∷ [])) more ≡ facets_over (map facet_view ds) (facet_view f more)
  go [] = refl
  go (d ∷ ds) = ap (facet_view d) (go ds)
