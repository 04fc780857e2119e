use Rattle.std.proofs.Common.{◌≡◌, ◌++◌, map}
use Rattle.fc_partial.specs.BucketView.{bucket_view}
use Rattle.fc_refine.specs.Tops.{bare_of, of_entry}
use Rattle.fc_refine.specs.ValuedView.{valued_entry}
use Rattle.fc_refine.proofs.tops.buckets_of.Given as goal

abbrev pub invariant-loop-value : goal.invariant-loop-value
invariant-loop-value l = map bucket_view l.buckets.items ++ map bare_of (map of_entry (map valued_entry l.value-iterator.rest.items)) ≡ map bare_of (map of_entry (map valued_entry l.fn.values.items))
