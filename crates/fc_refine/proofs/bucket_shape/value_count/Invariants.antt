use Rattle.std.proofs.Common.{◌≡◌, ◌+◌, ◌≤◌, drop, length}
use Rattle.fc_spec.specs.messages.Held.{listed_values}
use Rattle.fc_partial.specs.BucketView.{buckets_view}
use Rattle.fc_refine.proofs.bucket_shape.value_count.Given as goal

abbrev pub invariant-loop-bucket : goal.invariant-loop-bucket
invariant-loop-bucket l = record {
  few : l.count ≤ l.bucket-index;
  is : l.count + length (listed_values (buckets_view (drop l.bucket-index l.all))) ≡ length (listed_values (buckets_view l.all));
}
