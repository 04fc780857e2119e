use Rattle.std.proofs.Common.{◌≡◌, drop, option_map, None}
use Rattle.fc_spec.specs.messages.MessageShape.{buckets_fit}
use Rattle.fc_partial.specs.BucketView.{buckets_view}
use Rattle.fc_partial.specs.View.{key_view}
use Rattle.fc_request.specs.FacetNode.{kind_view}
use Rattle.fc_request.specs.NodeView.{nodes_view}
use Rattle.fc_refine.proofs.bucket_shape.buckets_fit.Given as goal

abbrev pub invariant-loop-bucket : goal.invariant-loop-bucket
invariant-loop-bucket l = buckets_fit (kind_view l.kind) (nodes_view l.nodes) (buckets_view l.all) None
    ≡ buckets_fit (kind_view l.kind) (nodes_view l.nodes) (buckets_view (drop l.bucket-index l.all)) (option_map (λ last. key_view last.now) l.last)
