use Rattle.std.proofs.Common.{◌≡◌, ◌++◌, ◌-◌, map}
use Rattle.std.specs.List.{range_with_len}
use Rattle.fc_request.specs.FacetNode.{kind_view}
use Rattle.fc_request.specs.Ranged.{gap_keys_of, gaps_of}
use Rattle.fc_spec.specs.requests.Buckets.{gap}
use Rattle.fc_lacks.specs.Keys.{AreCountedKeys, keyed_on, keyed_view}
use Rattle.fc_lacks.proofs.keyed.of_gaps.Given as goal

abbrev pub invariant-loop-gap : goal.invariant-loop-gap
invariant-loop-gap g l =
    let kind = kind_view l.kind in
    let f = keyed_on (g.R.BucketReading.reading l.reading) kind l.shards (g.R.BucketReading.over l.domain) in
    (map (keyed_view g.R.BucketReading.held) l.list.items ++ map f (map gap (range_with_len l.gap (gaps_of kind - l.gap))) ≡ map f (gap_keys_of kind))
    × AreCountedKeys (g.R.BucketReading.reading l.reading) g.R.BucketReading.held l.list.items
