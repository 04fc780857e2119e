use Rattle.std.proofs.Common.{◌≡◌, drop}
use Rattle.fc_spec.specs.messages.MessageShape.{wants_fit}
use Rattle.fc_spec.specs.requests.Ranks.{offered_bound}
use Rattle.fc_partial.specs.BucketView.{buckets_view}
use Rattle.fc_request.specs.NodeView.{nodes_view}
use Rattle.fc_refine.specs.AskView.{wants_view}
use Rattle.fc_refine.proofs.shape.wants_fit.Given as goal

abbrev pub invariant-loop-at : goal.invariant-loop-at
invariant-loop-at l = wants_fit offered_bound (nodes_view l.nodes) (wants_view l.wants) (buckets_view l.buckets)
    ≡ wants_fit offered_bound (nodes_view l.nodes) (wants_view (drop l.at l.wants)) (buckets_view (drop l.at l.buckets))
