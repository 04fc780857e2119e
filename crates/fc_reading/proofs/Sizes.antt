-- How many nodes there are, at any depth.
use Rattle.std.proofs.Common.{◌≡◌, ℕ, zero, suc, ◌+◌, ◌≤◌, List, [], ◌∷◌, drop, true, ap, arith}
use Rattle.fc_spec.specs.requests.Request.{Nodes, no_nodes, statistic, facet}
use Rattle.fc_spec.specs.requests.RequestReading.{of_statistic, of_facet}
use Rattle.fc_request.specs.declared.node.Node.{Node}
use Rattle.fc_request.specs.NodeView.{Part, node_view, nodes_view, inner_view}
use Rattle.fc_request.specs.FacetNode.{has_buckets, kind_of}
use Rattle.fc_reading.specs.Tree.{node_before}
use Rattle.fc_request.proofs.Nodes.{facet_is}

abbrev pub node_total : Nodes → ℕ
node_total no_nodes = 0
node_total (statistic name s rest) = 1 + node_total rest
node_total (facet f inner rest) = 1 + node_total inner + node_total rest

pub single_below : (p : Part) (rest : Nodes) → node_total (node_before p no_nodes) ≤ node_total (node_before p rest)
single_below (name, of_statistic s) rest = omega arith
single_below (name, of_facet change kind inner) rest = omega arith

rest_below : (p : Part) (rest : Nodes) → node_total rest ≤ node_total (node_before p rest)
rest_below (name, of_statistic s) rest = omega arith
rest_below (name, of_facet change kind inner) rest = omega arith

pub left_below : (i : ℕ) (xs : List Node) → node_total (nodes_view (drop i xs)) ≤ node_total (nodes_view xs)
left_below zero xs = omega arith
left_below (suc i) [] = omega arith
left_below (suc i) (x ∷ xs) = omega (arith, left_below i xs, rest_below (node_view x) (nodes_view xs))

pub facet_total : (n : Node) → has_buckets (kind_of n) ≡ true → node_total (node_before (node_view n) no_nodes) ≡ 1 + node_total (inner_view n) + 0
facet_total n h = ap node_total (facet_is n h no_nodes)
