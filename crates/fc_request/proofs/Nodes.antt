-- What a node is, kind by kind.
use Rattle.std.proofs.Common.{◌≡◌, true, None, Some, refl, ap, ◌∙◌}
use Rattle.fc_spec.specs.documents.Val.{Text}
use Rattle.fc_spec.specs.requests.Request as request
use Rattle.fc_spec.specs.requests.Request.{Nodes}
use Rattle.fc_spec.specs.requests.RequestReading.{with_node}
use Rattle.fc_base.specs.StatisticView.{stat_view}
use Rattle.fc_facet.specs.declared.kind.Kind.{Kind}
use Rattle.fc_facet.specs.declared.kind.Kind.TheVariants as k
use Rattle.fc_facet.specs.KindView.{domain_view}
use Rattle.fc_request.specs.declared.node.Node.{Node, out-Node}
use Rattle.fc_request.specs.declared.node.Node.TheFolds.{fold_out-Node}
use Rattle.fc_request.specs.NodeView.{Part, node_of, node_step, node_view, inner_view}
use Rattle.fc_request.specs.NodeStatistics.{statistic_of_node}
use Rattle.fc_request.specs.FacetNode.{has_buckets, kind_of, kind_view, facet_view}

pub node_is : (n : Node) → node_view n ≡ ((out-Node n).name, node_of (domain_view (out-Node n).domain) (kind_of n) (inner_view n))
node_is n = fold_out-Node Part node_step n

-- a node before others
abbrev pub before : Part → Nodes → Nodes
before p rest = with_node p.0 p.1 rest

module _ (n : Node) where
  abbrev name : Text
  name = (out-Node n).name

  abbrev part_with : Kind → Part
  part_with kind = (name, node_of (domain_view (out-Node n).domain) kind (inner_view n))

  -- a facet
  before_facet : (kind : Kind) → has_buckets kind ≡ true → (rest : Nodes)
      → before (part_with kind) rest ≡ request.facet (record { name = name; change = domain_view (out-Node n).domain; kind = kind_view kind }) (inner_view n) rest
  before_facet (k.Terms t) h rest = refl
  before_facet (k.Range g) h rest = refl
  before_facet (k.Query q) h rest = refl
  before_facet (k.DateRange g) h rest = refl
  before_facet (k.Stat s) h rest = absurd (cc h)

  pub facet_is : has_buckets (kind_of n) ≡ true → (rest : Nodes) → before (node_view n) rest ≡ request.facet (facet_view n) (inner_view n) rest
  facet_is h rest = ap (λ p. before p rest) (node_is n) ∙ before_facet (kind_of n) h rest

  no_statistic : (kind : Kind) → has_buckets kind ≡ true → statistic_of_node (part_with kind).1 ≡ None
  no_statistic (k.Terms t) h = refl
  no_statistic (k.Range g) h = refl
  no_statistic (k.Query q) h = refl
  no_statistic (k.DateRange g) h = refl
  no_statistic (k.Stat s) h = absurd (cc h)

  pub facet_is_no_statistic : has_buckets (kind_of n) ≡ true → statistic_of_node (node_view n).1 ≡ None
  facet_is_no_statistic h = ap (λ p. statistic_of_node p.1) (node_is n) ∙ no_statistic (kind_of n) h

  -- a statistic
  pub statistic_is : (s : _) → kind_of n ≡ k.Stat s → (rest : Nodes) → before (node_view n) rest ≡ request.statistic name (stat_view s) rest
  statistic_is s is rest = ap (λ p. before p rest) (node_is n) ∙ ap (λ kind. before (part_with kind) rest) is

  pub statistic_of : (s : _) → kind_of n ≡ k.Stat s → statistic_of_node (node_view n).1 ≡ Some (stat_view s)
  statistic_of s is = ap (λ p. statistic_of_node p.1) (node_is n) ∙ ap (λ kind. statistic_of_node (part_with kind).1) is

-- a kind that is no statistic has buckets
pub has_buckets_by : (kind : Kind) → ((s : _) → kind ≡ k.Stat s → ⊥) → has_buckets kind ≡ true
has_buckets_by (k.Terms t) h = refl
has_buckets_by (k.Range g) h = refl
has_buckets_by (k.Query q) h = refl
has_buckets_by (k.DateRange g) h = refl
has_buckets_by (k.Stat s) h = absurd (h s refl)
