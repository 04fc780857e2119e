use Rattle.std.proofs.Common.{◌≡◌, ◌++◌, ◌-◌, map}
use Rattle.std.specs.Prelude.{All}
use Rattle.std.specs.List.{range_with_len}
use Rattle.fc_base.specs.StatisticView.{stat_view}
use Rattle.fc_request.specs.FacetNode.{kind_view}
use Rattle.fc_request.specs.Ranged.{gap_keys_of, gaps_of}
use Rattle.fc_spec.specs.requests.Buckets.{gap}
use Rattle.fc_spec.specs.replies.Reply.{listed}
use Rattle.fc_spec.specs.requests.Request.{Nodes}
use Rattle.fc_reading.specs.Parts.{IsCounted, part_of, part_view}
use Rattle.fc_reading.proofs.range.gap_parts.Given as goal

abbrev pub invariant-loop-gap : goal.invariant-loop-gap
invariant-loop-gap g l =
    let R = g.R.BucketReading.reading l.reading in
    let held = g.R.BucketReading.held in
    let kind = kind_view l.kind in
    let Y = g.R.BucketReading.over l.domain in
    ((inner : Nodes) → map (part_view held listed) l.parts.items ++ map (part_of R kind inner l.shards Y) (map gap (range_with_len l.gap (gaps_of kind - l.gap)))
    ≡ map (part_of R kind inner l.shards Y) (gap_keys_of kind))
    × All (IsCounted R held (map stat_view l.stats)) l.parts.items
