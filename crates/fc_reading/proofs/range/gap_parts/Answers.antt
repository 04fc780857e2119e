use Rattle.std.proofs.Common.{◌∙◌, ◌+◌, ◌-◌, ◌<◌, ◌++◌, Some, map, ap, subst, sym, All}
use Rattle.std.specs.List.{range_with_len}
use Rattle.std.proofs.lemmas.List.Elements.{All-push}
use Rattle.fc_base.specs.StatisticView.{stat_view}
use Rattle.fc_base.specs.View.{val_view}
use Rattle.fc_request.specs.FacetNode.{kind_view}
use Rattle.fc_request.specs.Ranged.{gaps_of}
use Rattle.fc_spec.specs.replies.Reply.{listed}
use Rattle.fc_spec.specs.requests.Buckets.{gap}
use Rattle.fc_reading.specs.Parts.{IsCounted, part_of, part_view}
use Rattle.fc_reading.proofs.RangeParts.{next_gap, part_is}
use Rattle.fc_reading.proofs.range.gap_parts.Goals as goal

pub loop-gap-preserved : goal.loop-gap-preserved
loop-gap-preserved g c =
    let R = g.R.BucketReading.reading c.args.reading.now in
    let held = g.R.BucketReading.held in
    let Y = g.R.BucketReading.over c.args.domain.now in
    let kind = kind_view c.args.kind.now in
    let shards = c.args.shards.now in
    let n = c.loop-gap.gap in
    let end = gaps_of kind in
    let done = c.loop-gap.parts.items in
    let p = c.in_ok-part_at.field-0 in
    let items = c.in_ok-push.ensures.items in (
      λ inner.
          let f = part_of R kind inner shards Y in
          let is = c.in_ok-part_at.ensures.part ∙ part_is R inner shards Y kind c.requires.range (Some (val_view c.in_ok-low.low)) (gap n) c.in_ok-low.ensures in
          ap (λ ps. map (part_view held listed) ps ++ map f (map gap (range_with_len (n + 1) (end - (n + 1))))) items
          ∙ next_gap held f done p n end (subst (λ m. n < m) c.buckets_of_range-buckets.ensures.gaps c.loop-gap-test.true) is ∙ c.loop-gap.invariant.0 inner,
      subst (λ ps. All (IsCounted R held (map stat_view c.args.stats.now)) ps) (sym items)
          (All-push (IsCounted R held (map stat_view c.args.stats.now)) done p c.loop-gap.invariant.1 c.in_ok-part_at.ensures.counted),
    )
