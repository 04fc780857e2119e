use Rattle.std.proofs.Common.{◌≡◌, ◌++◌, ◌+◌, ◌*◌, map, drop}
use Rattle.std.specs.List.{flat_map}
use Rattle.fc_refine.specs.AskView.{way_view}
use Rattle.fc_refine.specs.CountableRanges.{AreCountable}
use Rattle.fc_request.specs.declared.node.Node.{out-Node}
use Rattle.fc_request.specs.NodeView.{inner_view, node_view, nodes_view}
use Rattle.fc_spec.specs.requests.Request.{no_nodes}
use Rattle.fc_lacks.specs.Inside.{inside_key}
use Rattle.fc_lacks.specs.Keys.{AreCountedKeys, keyed_view}
use Rattle.fc_lacks.specs.Lacking.{lacking}
use Rattle.fc_lacks.specs.LackView.{lack_view}
use Rattle.fc_reading.specs.Tree.{node_before}
use Rattle.fc_reading.proofs.Sizes.{node_total}
use Rattle.fc_lacks.proofs.walk.+lacking.Given as goal

abbrev pub invariant-push_in_keys-loop-one : goal.invariant-push_in_keys-loop-one
invariant-push_in_keys-loop-one g l =
    let R = g.R.BucketReading.reading l.reading in
    let F = inside_key R g.R.BucketReading.has (inner_view l.node) l.number (way_view l.fn.way.items) l.depth in
    let see = keyed_view g.R.BucketReading.held in
    (l.way.items ≡ l.fn.way.items)
    × (map lack_view l.lacks.items ++ flat_map F (map see l.one-iterator.rest.items) ≡ map lack_view l.fn.lacks.items ++ flat_map F (map see l.fn.buckets.items))
    × AreCountedKeys R g.R.BucketReading.held l.one-iterator.rest.items

abbrev pub invariant-push_in_bucket-loop-number : goal.invariant-push_in_bucket-loop-number
invariant-push_in_bucket-loop-number g l =
    let R = g.R.BucketReading.reading l.reading in
    let X = g.R.BucketReading.held l.bucket in
    let way = way_view l.fn.way.items in
    let left = nodes_view (drop l.number (out-Node l.node).nodes.items) in
    (l.way.items ≡ l.fn.way.items)
    × (map lack_view l.lacks.items ++ lacking R g.R.BucketReading.has l.depth left l.number l.shards X way ≡ map lack_view l.fn.lacks.items ++ lacking R g.R.BucketReading.has l.depth (inner_view l.node) 0 l.shards X way)
    × AreCountable left

-- each call is on fewer nodes, or on as many in the order of these
abbrev pub decreases-push_in_bucket : goal.decreases-push_in_bucket
decreases-push_in_bucket g l = 8 * node_total (inner_view l.node.now) + 1

abbrev pub decreases-push_in_key : goal.decreases-push_in_key
decreases-push_in_key g l = 8 * node_total (inner_view l.node.now) + 2

abbrev pub decreases-push_in_keys : goal.decreases-push_in_keys
decreases-push_in_keys g l = 8 * node_total (inner_view l.node.now) + 3

abbrev pub decreases-push_under : goal.decreases-push_under
decreases-push_under g l = 8 * node_total (inner_view l.node.now) + 4

abbrev pub decreases-push_at_node : goal.decreases-push_at_node
decreases-push_at_node g l = 8 * node_total (node_before (node_view l.node.now) no_nodes)
