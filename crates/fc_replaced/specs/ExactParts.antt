-- What a node does in the request of the exact facets alone, and what stands in its place in the replaced one.
use Rattle.std.specs.Prelude.{List, [], ◌∷◌, Bool, false, Option, None, Some, if◌then◌else◌}
use Rattle.fc_spec.specs.documents.Val.{Val}
use Rattle.fc_spec.specs.requests.Request.{Terms, Kind, terms, Nodes, statistic}
use Rattle.fc_spec.specs.requests.RequestReading.{of_statistic, of_facet, with_node}
use Rattle.fc_spec.specs.requests.Shape as shape
use Rattle.fc_spec.specs.replies.Tops.{replaced_facet}
use Rattle.fc_request.specs.NodeView.{Part}

-- the terms facet, where it is exact
abbrev pub exact_of : Kind → Option Terms
exact_of (terms t) = if shape.is_exact (terms t) then Some t else None
exact_of _ = None

abbrev pub is_exact : Part → Bool
is_exact (name, of_statistic s) = false
is_exact (name, of_facet change kind inner) = shape.is_exact kind

-- nodes before others
abbrev pub nodes_over : List Part → Nodes → Nodes
nodes_over [] more = more
nodes_over (p ∷ ps) more = with_node p.0 p.1 (nodes_over ps more)

-- what stands in the place of a node, before others, where these are its top values
abbrev pub replaced_node : Part → List Val → Nodes → Nodes
replaced_node (name, of_statistic s) vs more = statistic name s more
replaced_node (name, of_facet change kind inner) vs more = replaced_facet kind (record { name = name; change = change; kind = kind }) inner vs more
