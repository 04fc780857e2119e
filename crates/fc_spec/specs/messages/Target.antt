-- Where a way leads: to a bucket, by the facets that its steps name.
use Rattle.std.specs.Prelude.{ℕ, zero, suc, List, [], ◌∷◌, Option, None, Some}
use Rattle.fc_spec.specs.documents.World.{World, Place}
use Rattle.fc_spec.specs.requests.Request.{Facet, Nodes, no_nodes, statistic, facet, Request}
use Rattle.fc_spec.specs.requests.Buckets.{Key}
use Rattle.fc_spec.specs.requests.Paths.{Path, at_root, into, path_places}
use Rattle.fc_spec.specs.messages.Message.{Way}

-- the facet with a number among nodes, and the nodes nested in it
abbrev pub facet_at : ℕ → Nodes → Option (Facet × Nodes)
facet_at n no_nodes = None
facet_at zero (statistic name s rest) = None
facet_at zero (facet f inner rest) = Some (f, inner)
facet_at (suc n) (statistic name s rest) = facet_at n rest
facet_at (suc n) (facet f inner rest) = facet_at n rest

-- the nodes nested in it; none in no facet
abbrev pub nodes_in : Option (Facet × Nodes) → Nodes
nodes_in None = no_nodes
nodes_in (Some f) = f.1

-- a bucket by its path, with the nodes nested in its own; or none, where a step names no facet
pub data Target : Type 0 where
  leads_nowhere : Target
  leads_to : Path → Nodes → Target

-- the nodes nested there
abbrev pub target_nodes : Target → Nodes
target_nodes leads_nowhere = no_nodes
target_nodes (leads_to path nodes) = nodes

-- its path; that of the root where it leads nowhere
abbrev pub target_path : Target → Path
target_path leads_nowhere = at_root
target_path (leads_to path nodes) = path

-- its places over all shards
abbrev pub target_places : Request → World → Target → List Place
target_places r W leads_nowhere = []
target_places r W (leads_to path nodes) = path_places r W path

-- one step further in, to a key's bucket of a facet there
abbrev pub target_in : Key → Target → Option (Facet × Nodes) → Target
target_in key (leads_to path nodes) (Some f) = leads_to (into path f.0 key) f.1
target_in key _ _ = leads_nowhere

-- where a way leads from there on
abbrev pub target_from : Target → Way → Target
target_from t [] = t
target_from t (step ∷ way) = target_from (target_in step.key t (facet_at step.node (target_nodes t))) way

-- from the root on, whose bucket has these nodes
abbrev pub target_of : Nodes → Way → Target
target_of nodes way = target_from (leads_to at_root nodes) way
