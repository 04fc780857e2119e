-- How many nodes there are, at any depth.
use Rattle.std.specs.Prelude.{ℕ, ◌+◌}
use Rattle.fc_spec.specs.requests.Request.{Nodes, no_nodes, statistic, facet}

abbrev pub node_total : Nodes → ℕ
node_total no_nodes = 0
node_total (statistic name s rest) = 1 + node_total rest
node_total (facet f inner rest) = 1 + node_total inner + node_total rest
