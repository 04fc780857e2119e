-- The statistics among nodes, one node after another.
use Rattle.std.proofs.Common.{◌≡◌, ◌++◌, refl}
use Rattle.std.specs.Option.{option_to_list}
use Rattle.fc_spec.specs.documents.Val.{Text}
use Rattle.fc_spec.specs.requests.Request.{Nodes, stats_of}
use Rattle.fc_spec.specs.requests.RequestReading.{Node, of_statistic, of_facet, with_node}
use Rattle.fc_request.specs.NodeStatistics.{statistic_of_node}

pub stats_of-with_node : (name : Text) (n : Node) (rest : Nodes) → stats_of (with_node name n rest) ≡ option_to_list (statistic_of_node n) ++ stats_of rest
stats_of-with_node name (of_statistic s) rest = refl
stats_of-with_node name (of_facet change kind inner) rest = refl
