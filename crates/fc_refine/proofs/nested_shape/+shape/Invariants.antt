use Rattle.std.proofs.Common.{◌≡◌, drop}
use Rattle.fc_spec.specs.messages.MessageShape.{rows_fit, insides_fit}
use Rattle.fc_spec.specs.requests.Ranks.{offered_bound}
use Rattle.fc_partial.specs.BucketView.{buckets_view, rows_view}
use Rattle.fc_request.specs.NodeView.{nodes_view}
use Rattle.fc_refine.specs.CountableRanges.{AreCountable}
use Rattle.fc_refine.proofs.nested_shape.+shape.Given as goal

abbrev pub invariant-rows_fit-loop-node : goal.invariant-rows_fit-loop-node
invariant-rows_fit-loop-node l = record {
  is : rows_fit offered_bound (rows_view l.rows) (nodes_view l.nodes) ≡ rows_fit offered_bound (rows_view l.left) (nodes_view (drop l.node-index l.nodes));
  countable : AreCountable (nodes_view (drop l.node-index l.nodes));
}

abbrev pub invariant-insides_fit-loop-bucket : goal.invariant-insides_fit-loop-bucket
invariant-insides_fit-loop-bucket l = insides_fit offered_bound (buckets_view l.all) (nodes_view l.nodes) ≡ insides_fit offered_bound (buckets_view (drop l.bucket-index l.all)) (nodes_view l.nodes)
