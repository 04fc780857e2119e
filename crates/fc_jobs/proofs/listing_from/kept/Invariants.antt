use Rattle.std.proofs.Common.{◌≡◌, ◌++◌}
use Rattle.std.specs.List.{filter}
use Rattle.fc_jobs.proofs.KeptBuckets.{is_listed}
use Rattle.fc_jobs.proofs.listing_from.kept.Given as goal

abbrev pub invariant-loop-bucket : goal.invariant-loop-bucket
invariant-loop-bucket l = l.list.items ++ filter (is_listed l.least) l.bucket-iterator.rest.items ≡ filter (is_listed l.least) l.fn.buckets.items
