use Rattle.std.proofs.Common.{◌≡◌, ℕ, drop}
use Rattle.fc_spec.specs.messages.Held.{told_wants}
use Rattle.fc_partial.specs.BucketView.{buckets_view}
use Rattle.fc_refine.specs.AskView.{wants_view}
use Rattle.fc_request.specs.NodeView.{nodes_view}
use Rattle.fc_told.specs.Fitting.{all_fit}
use Rattle.fc_told.specs.TreeView.{tree_view}
use Rattle.fc_told.proofs.fitting.wants_fit.Given as goal

abbrev pub invariant-loop-at : goal.invariant-loop-at
invariant-loop-at l = (shard : ℕ) → all_fit (tree_view l.told) (told_wants (nodes_view l.nodes) shard (wants_view l.wants) (buckets_view l.buckets))
    ≡ all_fit (tree_view l.told) (told_wants (nodes_view l.nodes) shard (wants_view (drop l.at l.wants)) (buckets_view (drop l.at l.buckets)))
