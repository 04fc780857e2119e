-- What nodes stand for in the definitions.
use Rattle.std.specs.Prelude.{List, [], ◌∷◌, map}
use Rattle.fc_spec.specs.documents.Val.{Text}
use Rattle.fc_spec.specs.requests.Request as definition
use Rattle.fc_spec.specs.requests.RequestReading as reading
use Rattle.fc_base.specs.StatisticView.{stat_view}
use Rattle.fc_query.specs.QueryView.{query_view}
use Rattle.fc_facet.specs.declared.kind.Kind.{Kind}
use Rattle.fc_facet.specs.declared.kind.Kind.TheVariants as kind
use Rattle.fc_request.specs.declared.node.Node.{Node, fold-Node, out-Node}
use Rattle.fc_request.specs.declared.node.Node.TheOpen.{Node-F}
use Rattle.fc_facet.specs.KindView.{domain_view, terms_view, range_view, date_range_view}

-- a node without those behind it: its name and what it is
abbrev pub Part : Type 0
Part = Text × reading.Node

-- nodes in their order
abbrev pub linked : List Part → definition.Nodes
linked [] = definition.no_nodes
linked (p ∷ ps) = reading.with_node p.0 p.1 (linked ps)

-- a statistic, or a facet with its change and the nodes nested in it
abbrev pub node_of : definition.DomainChange → Kind → definition.Nodes → reading.Node
node_of change (kind.Terms t) inner = reading.of_facet change (definition.terms (terms_view t)) inner
node_of change (kind.Range g) inner = reading.of_facet change (definition.range (range_view g)) inner
node_of change (kind.Query q) inner = reading.of_facet change (definition.query (query_view q)) inner
node_of change (kind.DateRange g) inner = reading.of_facet change (definition.date_range (date_range_view g)) inner
node_of change (kind.Stat s) inner = reading.of_statistic (stat_view s)

abbrev pub node_step : Node-F Part → Part
node_step n = (n.name, node_of (domain_view n.domain) n.kind (linked n.nodes.items))

abbrev pub node_view : Node → Part
node_view = fold-Node Part node_step

abbrev pub nodes_view : List Node → definition.Nodes
nodes_view ns = linked (map node_view ns)

-- the nodes nested in a node
abbrev pub inner_view : Node → definition.Nodes
inner_view n = nodes_view (out-Node n).nodes.items
