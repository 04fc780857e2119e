-- Which nodes are statistics.
use Rattle.std.specs.Prelude.{Option, None, Some}
use Rattle.fc_spec.specs.requests.Request.{Stat}
use Rattle.fc_spec.specs.requests.RequestReading.{Node, of_statistic, of_facet}

-- what the node asks, where it is a statistic
abbrev pub statistic_of_node : Node → Option Stat
statistic_of_node (of_statistic s) = Some s
statistic_of_node (of_facet change kind inner) = None
