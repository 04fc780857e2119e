use Rattle.std.proofs.Common.{take}
use Rattle.fc_partial.specs.BucketView.{buckets_view}
use Rattle.fc_refine.specs.Listings.{listed_in, listed_view, GrowsBy}
use Rattle.fc_refine.proofs.listing.push_part.Given as goal

abbrev pub invariant-loop-bucket : goal.invariant-loop-bucket
invariant-loop-bucket l = GrowsBy listed_view l.fn.by_value l.by_value (λ v. listed_in v l.shard (buckets_view (take l.bucket-index l.bucket-items)))
