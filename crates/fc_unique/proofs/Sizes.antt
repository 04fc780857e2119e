-- Fewer nodes are left, and fewer are nested.
use Rattle.std.proofs.Common.{◌≡◌, ◌+◌, ◌-◌, ◌≤◌, ◌==◌, List, [], ◌∷◌, length, refl, Bool, true, false, cond, ◌&&◌, arith}
use Rattle.std.proofs.lemmas.Bool.{eqb-false}
use Rattle.fc_spec.specs.words.Lists.{is_empty}
use Rattle.fc_spec.specs.requests.Request.{Nodes, no_nodes, statistic, facet}
use Rattle.fc_spec.specs.requests.RequestReading.{of_statistic, of_facet, with_node}
use Rattle.fc_spec.specs.replies.Folded.{from_printed, inner_of, rest_of}
use Rattle.fc_request.specs.declared.node.Node.{Node}
use Rattle.fc_request.specs.NodeView.{Part, node_view, nodes_view}
use Rattle.fc_unique.specs.Sizes.{node_total}

pub inner_total : (e : Bool) (ns : Nodes) → node_total (inner_of (from_printed e ns)) ≤ node_total ns - 1
inner_total e no_nodes = omega arith
inner_total e (statistic name s rest) = omega (arith, inner_total e rest)
inner_total e (facet f inner rest) = go (e && is_empty f.change.exclude) (inner_total e rest)
  where
    go : (b : Bool) → node_total (inner_of (from_printed e rest)) ≤ node_total rest - 1 → node_total (inner_of (cond b (from_printed e rest) (facet f inner rest))) ≤ 1 + node_total inner + node_total rest - 1
    go true h = omega arith
    go false h = omega arith

pub rest_total : (e : Bool) (ns : Nodes) → node_total (rest_of (from_printed e ns)) ≤ node_total ns
rest_total e no_nodes = omega arith
rest_total e (statistic name s rest) = omega (arith, rest_total e rest)
rest_total e (facet f inner rest) = go (e && is_empty f.change.exclude) (rest_total e rest)
  where
    go : (b : Bool) → node_total (rest_of (from_printed e rest)) ≤ node_total rest → node_total (rest_of (cond b (from_printed e rest) (facet f inner rest))) ≤ 1 + node_total inner + node_total rest
    go true h = omega arith
    go false h = omega arith

-- some nodes are at least one
pub some_total : (ns : List Node) → (length ns == 0) ≡ false → 1 ≤ node_total (nodes_view ns)
some_total [] h = absurd (eqb-false 0 0 h refl)
some_total (n ∷ ns) h = go (node_view n)
  where
    go : (p : Part) → 1 ≤ node_total (with_node p.0 p.1 (nodes_view ns))
    go (name, of_statistic s) = omega arith
    go (name, of_facet change kind inner) = omega arith
