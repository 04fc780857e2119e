use Rattle.std.proofs.Common.{◌≡◌, ◌++◌, ◌+◌, ◌*◌, map, drop}
use Rattle.std.specs.Prelude.{All}
use Rattle.std.specs.List.{enumerate_from}
use Rattle.fc_partial.specs.StatsView.{stats_view}
use Rattle.fc_request.specs.declared.node.Node.{out-Node}
use Rattle.fc_request.specs.NodeView.{inner_view, node_view, nodes_view}
use Rattle.fc_reply.specs.ReplyView.{bucket_view, facet_view, facets_over}
use Rattle.fc_spec.specs.replies.Reply.{listed}
use Rattle.fc_spec.specs.replies.Distributed.{dist_facets}
use Rattle.fc_spec.specs.requests.Request.{no_nodes, stats_of}
use Rattle.fc_refine.specs.CountableRanges.{AreCountable}
use Rattle.fc_reading.specs.Parts.{bucket_with, IsCounted, part_view}
use Rattle.fc_reading.specs.Tree.{count_in, inside, node_before}
use Rattle.fc_reading.proofs.Sizes.{node_total}
use Rattle.fc_reading.proofs.tree.+replying.Given as goal

abbrev pub invariant-buckets-loop-part : goal.invariant-buckets-loop-part
invariant-buckets-loop-part g l =
    let R = g.R.BucketReading.reading l.reading in
    let held = g.R.BucketReading.held in
    (map bucket_view l.list.items ++ map (λ part. bucket_with (count_in R) (inside R (inner_view l.node)) (part_view held listed part)) l.part-iterator.rest.items
    ≡ map (λ part. bucket_with (count_in R) (inside R (inner_view l.node)) (part_view held listed part)) l.fn.parts.items)
    × All (IsCounted R held (stats_of (inner_view l.node))) l.part-iterator.rest.items

abbrev pub invariant-facets-loop-number : goal.invariant-facets-loop-number
invariant-facets-loop-number g l =
    let R = g.R.BucketReading.reading l.reading in
    let X = g.R.BucketReading.held l.around in
    let left = nodes_view (drop l.number (out-Node l.node).nodes.items) in
    (facets_over (map facet_view l.printed.items) (dist_facets R left l.number l.statistics l.shards X) ≡ dist_facets R (inner_view l.node) 0 0 l.shards X)
    × (drop l.statistics (stats_view l.stats).values ≡ map (λ s. R.statistic_on s.0 s.1 l.shards X) (enumerate_from l.statistics (stats_of left)))
    × AreCountable left

-- each call is on fewer nodes, or on as many in the order of these
abbrev pub decreases-bucket : goal.decreases-bucket
decreases-bucket g l = 8 * node_total (inner_view l.node.now) + 2

abbrev pub decreases-buckets : goal.decreases-buckets
decreases-buckets g l = 8 * node_total (inner_view l.node.now) + 3

abbrev pub decreases-bucket_beside : goal.decreases-bucket_beside
decreases-bucket_beside g l = 8 * node_total (inner_view l.node.now) + 3

abbrev pub decreases-row : goal.decreases-row
decreases-row g l = 8 * node_total (inner_view l.node.now) + 4

abbrev pub decreases-body : goal.decreases-body
decreases-body g l = 8 * node_total (inner_view l.node.now) + 5

abbrev pub decreases-buckets_body : goal.decreases-buckets_body
decreases-buckets_body g l = 8 * node_total (inner_view l.node.now) + 6

abbrev pub decreases-facet : goal.decreases-facet
decreases-facet g l = 8 * node_total (node_before (node_view l.node.now) no_nodes)

abbrev pub decreases-facets : goal.decreases-facets
decreases-facets g l = 8 * node_total (inner_view l.node.now) + 1
