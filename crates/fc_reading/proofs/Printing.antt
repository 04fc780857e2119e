-- What a node prints in a bucket.
use Rattle.std.proofs.Common.{◌≡◌, ℕ, suc, List, true, Option, ap, sym, ◌∙◌, ◌==◌}
use Rattle.fc_spec.specs.requests.Request.{Nodes}
use Rattle.fc_spec.specs.requests.Statistics.{shown}
use Rattle.fc_spec.specs.replies.Reply.{Facets}
use Rattle.fc_spec.specs.replies.Printed.{facet_part, statistic_part}
use Rattle.fc_spec.specs.replies.Reading.{Reading}
use Rattle.fc_spec.specs.replies.Distributed.{dist_facets, dist_buckets}
use Rattle.fc_base.specs.StatisticView.{stat_view}
use Rattle.fc_facet.specs.declared.kind.Kind.TheVariants as k
use Rattle.fc_request.specs.declared.node.Node.{Node, out-Node}
use Rattle.fc_request.specs.NodeView.{node_view, inner_view}
use Rattle.fc_request.specs.FacetNode.{has_buckets, kind_of, facet_view}
use Rattle.fc_reply.specs.ReplyView.{facet_over}
use Rattle.fc_reading.specs.Tree.{node_before, one_more_if, statistics_after, inside}
use Rattle.fc_request.proofs.Nodes.{facet_is, facet_is_no_statistic, statistic_is, statistic_of}

module _ {B D : Type 0} (R : Reading B D) (H : List ℕ) (X : B) (n : Node) (at m : ℕ) (rest : Nodes) where
  abbrev after : ℕ
  after = statistics_after (node_view n) m

  -- of a statistic its number
  pub statistic_prints : (put : Option (Facets → Facets)) (s : _) (count : ℕ) → kind_of n ≡ k.Stat s → count ≡ R.count_on H X
      → ((more : Facets) → facet_over put more ≡ statistic_part (count == 0) ((out-Node n).name) (shown (R.statistic_on m (stat_view s) H X)) more)
      → facet_over put (dist_facets R rest (suc at) after H X) ≡ dist_facets R (node_before (node_view n) rest) at m H X
  statistic_prints put s count is counted prints =
      ap (λ a. facet_over put (dist_facets R rest (suc at) (one_more_if a m) H X)) (statistic_of n s is)
      ∙ prints (dist_facets R rest (suc at) (suc m) H X)
      ∙ ap (λ c. statistic_part (c == 0) ((out-Node n).name) (shown (R.statistic_on m (stat_view s) H X)) (dist_facets R rest (suc at) (suc m) H X)) counted
      ∙ ap (λ ns. dist_facets R ns at m H X) (sym (statistic_is n s is rest))

  -- of a facet its buckets
  pub facet_prints : (put : Option (Facets → Facets)) (count : ℕ) → has_buckets (kind_of n) ≡ true → count ≡ R.count_on H X
      → ((more : Facets) → facet_over put more ≡ facet_part (count == 0) (facet_view n) (dist_buckets R (facet_view n) (inner_view n) (inside R (inner_view n)) H (R.domain_on at (facet_view n) H X) more) more)
      → facet_over put (dist_facets R rest (suc at) after H X) ≡ dist_facets R (node_before (node_view n) rest) at m H X
  facet_prints put count facet counted prints =
      ap (λ a. facet_over put (dist_facets R rest (suc at) (one_more_if a m) H X)) (facet_is_no_statistic n facet)
      ∙ prints (dist_facets R rest (suc at) m H X)
      ∙ ap (λ c. facet_part (c == 0) (facet_view n) (dist_buckets R (facet_view n) (inner_view n) (inside R (inner_view n)) H (R.domain_on at (facet_view n) H X) (dist_facets R rest (suc at) m H X)) (dist_facets R rest (suc at) m H X)) counted
      ∙ ap (λ ns. dist_facets R ns at m H X) (sym (facet_is n facet rest))
