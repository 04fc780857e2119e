-- The nodes where a way leads, without the path to them.
use Rattle.std.specs.Prelude.{ℕ, [], ◌∷◌}
use Rattle.fc_spec.specs.requests.Request.{Nodes}
use Rattle.fc_spec.specs.messages.Message.{Way}
use Rattle.fc_spec.specs.messages.Target as target

abbrev pub nodes_in : ℕ → Nodes → Nodes
nodes_in n nodes = target.nodes_in (target.facet_at n nodes)

abbrev pub nodes_along : Nodes → Way → Nodes
nodes_along nodes [] = nodes
nodes_along nodes (step ∷ way) = nodes_along (nodes_in step.node nodes) way
