use Rattle.std.proofs.Common.{◌∙◌, ap, map, subst}
use Rattle.fc_base.specs.StatisticView.{stat_view}
use Rattle.fc_request.specs.FacetNode.{kind_of, kind_view}
use Rattle.fc_request.specs.NodeView.{inner_view}
use Rattle.fc_reading.specs.Parts.{AreCounted}
use Rattle.fc_reading.proofs.RangeParts.{are_printed}
use Rattle.fc_reading.proofs.Ranges.{is_range}
use Rattle.fc_reading.proofs.kinds.printed.Goals as goal

pub returns-in-Range : goal.returns-in-Range
returns-in-Range g c =
    let R = g.R.BucketReading.reading c.args.reading.now in
    let held = g.R.BucketReading.held in
    let kind = kind_of c.args.node.now in
    let inner = inner_view c.args.node.now in
    let parts = c.in_ok-parts-in-Range.parts in
    let stats = ap (map stat_view) c.deref-in-Range.ensures.value ∙ c.in_ok-stats.ensures in
    are_printed R held (kind_view kind) inner c.args.shards.now (g.R.BucketReading.over c.args.domain.now) parts (is_range kind c.in-Range.is c.requires.countable)
    (c.in_ok-parts-in-Range.ensures.parts inner) (subst (λ ss. AreCounted R held ss parts) stats c.in_ok-parts-in-Range.ensures.counted)
