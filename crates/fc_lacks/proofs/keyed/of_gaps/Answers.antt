use Rattle.std.proofs.Common.{◌∙◌, ◌<◌, map, subst}
use Rattle.fc_request.specs.FacetNode.{kind_view}
use Rattle.fc_request.specs.Ranged.{gaps_of}
use Rattle.fc_lacks.specs.Keys.{keyed_on, keyed_view}
use Rattle.fc_lacks.proofs.KeyedBuckets.{next_key}
use Rattle.fc_lacks.proofs.keyed.of_gaps.Goals as goal

pub loop-gap-preserved : goal.loop-gap-preserved
loop-gap-preserved g c =
    let kind = kind_view c.args.kind.now in
    let f = keyed_on (g.R.BucketReading.reading c.args.reading.now) kind c.args.shards.now (g.R.BucketReading.over c.args.domain.now) in
    let see = map (keyed_view g.R.BucketReading.held) in
    let n = c.loop-gap.gap in (
      next_key f (see c.loop-gap.list.items) (see c.push_key.new.list.items) n (gaps_of kind) (subst (λ m. n < m) c.buckets_of_range-buckets.ensures.gaps c.loop-gap-test.true) c.in_ok-push_key.ensures.keyed
          ∙ c.loop-gap.invariant.0,
      c.in_ok-push_key.ensures.counted c.loop-gap.invariant.1,
    )
