-- The ranges of a node that can be counted.
use Rattle.std.proofs.Common.{◌≡◌, true, subst}
use Rattle.fc_spec.specs.requests.Request.{no_nodes}
use Rattle.fc_request.specs.declared.node.Node.{Node}
use Rattle.fc_request.specs.NodeView.{node_view, inner_view}
use Rattle.fc_request.specs.FacetNode.{has_buckets, kind_of, kind_view}
use Rattle.fc_request.proofs.Nodes.{before, facet_is}
use Rattle.fc_refine.specs.CountableRanges.{IsCountable, AreCountable}

module _ (n : Node) where
  -- the ranges of a facet can be counted, and those inside it
  pub countable_kind : has_buckets (kind_of n) ≡ true → AreCountable (before (node_view n) no_nodes) → IsCountable (kind_view (kind_of n))
  countable_kind h all = (subst AreCountable (facet_is n h no_nodes) all).0

  pub countable_inside : has_buckets (kind_of n) ≡ true → AreCountable (before (node_view n) no_nodes) → AreCountable (inner_view n)
  countable_inside h all = (subst AreCountable (facet_is n h no_nodes) all).1
