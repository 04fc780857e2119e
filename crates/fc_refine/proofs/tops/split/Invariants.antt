use Rattle.std.proofs.Common.{◌≡◌, ◌++◌, map}
use Rattle.fc_partial.specs.BucketView.{bucket_view, buckets_view}
use Rattle.fc_refine.specs.Tops.{bare_of, entries_in, others_of_tally, values_of_tally}
use Rattle.fc_refine.specs.ValuedView.{valued_entry}
use Rattle.fc_refine.proofs.tops.split.Given as goal

abbrev pub invariant-loop-bucket : goal.invariant-loop-bucket
invariant-loop-bucket l =
    let left = entries_in (buckets_view l.bucket-iterator.rest.items) in
    let all = entries_in (buckets_view l.fn.buckets.items) in
    record {
      values : map valued_entry l.values.items ++ values_of_tally left ≡ values_of_tally all;
      others : map bucket_view l.others.items ++ map bare_of (others_of_tally left) ≡ map bare_of (others_of_tally all);
    }
