-- Facets among nodes, without the statistics.
use Rattle.std.specs.Prelude.{ℕ, List, [], ◌∷◌, length}
use Rattle.fc_spec.specs.requests.Request.{Facet, Nodes, no_nodes, statistic, facet}
use Rattle.fc_request.specs.FacetNode.{facet_view}
use Rattle.fc_request.specs.NodeView.{inner_view}
use Rattle.fc_request.specs.declared.node.Node.{Node}

-- a facet, and the nodes nested in it
abbrev pub Nested : Type 0
Nested = Facet × Nodes

abbrev pub nested_view : Node → Nested
nested_view n = (facet_view n, inner_view n)

abbrev pub facets_of : Nodes → List Nested
facets_of no_nodes = []
facets_of (statistic name s rest) = facets_of rest
facets_of (facet f inner rest) = (f, inner) ∷ facets_of rest

abbrev pub facet_count : Nodes → ℕ
facet_count nodes = length (facets_of nodes)
