-- Nodes with other nodes nested in them.
use Rattle.fc_spec.specs.requests.Request.{Nodes}
use Rattle.fc_spec.specs.requests.RequestReading.{Node, of_statistic, of_facet}
use Rattle.fc_request.specs.NodeView.{Part}

-- the same facet with these nodes nested in it; a statistic stays as it is
abbrev pub nesting : Node → Nodes → Node
nesting (of_statistic s) nodes = of_statistic s
nesting (of_facet change kind inner) nodes = of_facet change kind nodes

abbrev pub with_nested : Part → Nodes → Part
with_nested p nodes = (p.0, nesting p.1 nodes)
