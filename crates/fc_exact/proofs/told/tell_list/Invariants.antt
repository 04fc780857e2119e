use Rattle.std.proofs.Common.{◌≡◌, ◌++◌, map}
use Rattle.fc_spec.specs.messages.TopRounds.{tell, listed_entries}
use Rattle.fc_partial.specs.BucketView.{buckets_view}
use Rattle.fc_exact.specs.View.{told_view}
use Rattle.fc_exact.proofs.told.tell_list.Given as goal

abbrev pub invariant-loop-bucket : goal.invariant-loop-bucket
invariant-loop-bucket l =
    map told_view l.told.items ++ map (tell l.node l.shard) (listed_entries (buckets_view l.bucket-iterator.rest.items))
    ≡ map told_view l.fn.told.items ++ map (tell l.node l.shard) (listed_entries (buckets_view l.fn.list.items))
