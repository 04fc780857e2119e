-- Where a way leads in one segment.
use Rattle.std.specs.Prelude.{◌≡◌, List, [], ◌∷◌, Bool, false, replicate, Option, None, Some}
use Rattle.fc_spec.specs.documents.Sets.{AreSets}
use Rattle.fc_spec.specs.documents.Totals.{document_total}
use Rattle.fc_spec.specs.messages.Message.{Way}
use Rattle.fc_spec.specs.messages.Target.{facet_at, nodes_in}
use Rattle.fc_spec.specs.requests.Buckets.{Key}
use Rattle.fc_spec.specs.requests.DomainSets.{bucket_set, changed_set}
use Rattle.fc_spec.specs.requests.Paths.{Path, at_root, into}
use Rattle.fc_spec.specs.requests.Request.{Facet, Nodes, Request}
use Rattle.fc_answers.specs.SetAnswer.{Piece, Pieces, Scope, Spot, base_in, inside, scope_of, scope_on, spot_from, whole_world}
use Rattle.fc_jobs.specs.Pieces.{each_piece}

-- the domain of a facet in a segment, from the set of the bucket around it
abbrev pub domain_set : Scope → Piece → Facet → List Bool → List Bool
domain_set o p f set = changed_set f.change p.blocks (base_in o f.change.exclude p) set

-- one step further in; nowhere is no position
abbrev pub set_in : Scope → Piece → Key → List Bool → Option (Facet × Nodes) → List Bool
set_in o p key set None = replicate (document_total p.blocks) false
set_in o p key set (Some f) = bucket_set f.0.kind key p.blocks (domain_set o p f.0 set)

abbrev pub path_in : Path → Key → Option (Facet × Nodes) → Path
path_in path key None = at_root
path_in path key (Some f) = into path f.0 key

abbrev pub scope_into : Scope → Key → Option (Facet × Nodes) → Scope
scope_into o key None = scope_on o.request at_root
scope_into o key (Some f) = inside o f.0 key

-- the set of the bucket where a way leads, from a bucket with these nodes
abbrev pub walked : Scope → Piece → Nodes → List Bool → Way → List Bool
walked o p nodes set [] = set
walked o p nodes set (step ∷ way) = walked (scope_into o step.key (facet_at step.node nodes)) p (nodes_in (facet_at step.node nodes)) (set_in o p step.key set (facet_at step.node nodes)) way

-- the nodes nested in that bucket
abbrev pub nodes_from : Nodes → Way → Nodes
nodes_from nodes [] = nodes
nodes_from nodes (step ∷ way) = nodes_from (nodes_in (facet_at step.node nodes)) way

-- its path, and its scope
abbrev pub path_along : Path → Nodes → Way → Path
path_along path nodes [] = path
path_along path nodes (step ∷ way) = path_along (path_in path step.key (facet_at step.node nodes)) (nodes_in (facet_at step.node nodes)) way

abbrev pub scope_along : Scope → Nodes → Way → Scope
scope_along o nodes [] = o
scope_along o nodes (step ∷ way) = scope_along (scope_into o step.key (facet_at step.node nodes)) (nodes_in (facet_at step.node nodes)) way

-- over all segments a way leads to the sets that it leads to in each of them
abbrev pub WalksBySegment : Type 0
WalksBySegment = (r : Request) (V : Pieces) (s : Spot) (way : Way) → AreSets (whole_world V) s.sets
    → (spot_from r V s way ≡ record { path = path_along s.path s.nodes way; nodes = nodes_from s.nodes way; sets = each_piece (λ p set. walked (scope_of r s) p s.nodes set way) V s.sets })
    × (scope_on r (path_along s.path s.nodes way) ≡ scope_along (scope_of r s) s.nodes way)
