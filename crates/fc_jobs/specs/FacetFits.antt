-- Facets whose work can be done in a segment.
use Rattle.std.specs.Prelude.{List, IsTrue, Bool}
use Rattle.fc_spec.specs.requests.Request.{Nodes, no_nodes, statistic, facet, stats_of}
use Rattle.fc_domain.specs.FieldsFit.{ChangeFits}
use Rattle.fc_kind.specs.Columns.{FitsColumns, HaveFields}
use Rattle.fc_request.specs.FacetNode.{facet_view, has_buckets, kind_of, kind_view}
use Rattle.fc_request.specs.NodeView.{inner_view}
use Rattle.fc_request.specs.declared.node.Node.{Node}

-- the node is a facet; its change, its kind and the statistics nested in it fit columns
pub record FacetFits (texts : List Bool) (n : Node) : Type 0 where
  pub facet : IsTrue (has_buckets (kind_of n))
  pub change : ChangeFits texts (facet_view n).change
  pub kind : FitsColumns texts (kind_view (kind_of n))
  pub fields : HaveFields texts (stats_of (inner_view n))

-- each facet among the nodes, and those nested in them, have changes and kinds that fit columns
abbrev pub AllFit : List Bool → Nodes → Type 0
AllFit texts no_nodes = Unit {0}
AllFit texts (statistic name s rest) = AllFit texts rest
AllFit texts (facet f inner rest) = ChangeFits texts f.change × FitsColumns texts f.kind × AllFit texts inner × AllFit texts rest
