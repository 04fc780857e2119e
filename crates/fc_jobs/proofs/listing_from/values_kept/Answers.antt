use Rattle.std.proofs.Common.{◌∙◌, ap}
use Rattle.fc_partial.specs.BucketView.{buckets_view}
use Rattle.fc_jobs.proofs.KeptBuckets.{kept_bare}
use Rattle.fc_jobs.proofs.listing_from.values_kept.Goals as goal

pub returns-clause-list : goal.returns-clause-list
returns-clause-list c = ap buckets_view c.in_ok-list.ensures ∙ kept_bare c.args.least c.in_ok-buckets.buckets.items c.args.tally.entries c.in_ok-buckets.ensures.buckets
