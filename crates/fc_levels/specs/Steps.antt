-- What the end of a job makes of levels.
use Rattle.std.specs.Prelude.{◌≡◌, List, [], ◌∷◌, ◌++◌, All, Bool, IsTrue}
use Rattle.fc_spec.specs.documents.Schema.{Schema}
use Rattle.fc_spec.specs.messages.Message.{Partials}
use Rattle.fc_spec.specs.requests.Buckets.{is_key_of}
use Rattle.fc_spec.specs.requests.Request.{Nodes}
use Rattle.fc_spec.specs.requests.ValidRequests.{AreValidNodes, IsValidFacet}
use Rattle.fc_partial.specs.BucketView.{node_view}
use Rattle.fc_partial.specs.View.{key_view}
use Rattle.fc_partial.specs.declared.bucket.PartialBucket.{PartialBucket}
use Rattle.fc_partial.specs.declared.bucket.PartialNode.{PartialNode}
use Rattle.fc_request.specs.FacetNode.{facet_view, has_buckets, kind_of, kind_view}
use Rattle.fc_request.specs.NodeView.{inner_view, nodes_view}
use Rattle.fc_request.specs.declared.node.Node.{Node}
use Rattle.fc_answers.specs.LiveSets.{AreLive}
use Rattle.fc_answers.specs.SetAnswer.{Pieces, Scope, Sets}
use Rattle.fc_levels.specs.Facets.{Nested, facets_of, nested_view}
use Rattle.fc_levels.specs.Jobs.{opened, opened_inside, openings_of}
use Rattle.fc_levels.specs.Levels.{around, ended_in, ended_inside, entry_of, open_in, open_scope, open_sets, outermost_domain, plug, row_in, scope_in}
use Rattle.fc_levels.specs.declared.level.Level.{Level}
use Rattle.fc_levels.specs.declared.level.Step.{Step}
use Rattle.fc_levels.specs.declared.level.Step.TheVariants.{Opened, Closed}
use Rattle.fc_levels.specs.declared.level.Next.{Next}
use Rattle.fc_levels.specs.declared.level.Next.TheVariants.{Job, Whole}

-- the job whose list is ps, over the sets D, has ended: the next one is a facet's in the bucket that is open then, or the outermost buckets are whole
abbrev pub Goes : Scope → Pieces → (before after : List Level) → Sets → Partials → Next → Type 0
Goes o V before after D ps (Job n k) =
    (k ≡ opened ps) × (plug o V after (row_in (scope_in o after) V (nested_view n.now) (open_in V [] after)) ≡ plug o V before ps)
    × (ended_in o V after (row_in (scope_in o after) V (nested_view n.now) (open_in V [] after)) ≡ ended_in o V before ps ++ k ∷ []) × (outermost_domain D after ≡ outermost_domain D before)
Goes o V before after D ps (Whole node domain) =
    (opened ps ≡ 0) × (node_view node ≡ plug o V before ps)
    × (openings_of (node_view node) ≡ ended_in o V before ps ++ 0 ∷ []) × (domain.items ≡ outermost_domain D before) × (after ≡ [])

-- a level whose open bucket has one more list
abbrev pub Resumes : Level → PartialNode → Step → Type 0
Resumes l h (Opened k n) =
    ((o : Scope) (V : Pieces) → around o V k (row_in (open_scope o k) V (nested_view n.now) (open_sets V k)) ≡ around o V l (node_view h)) × (ended_inside k ≡ ended_inside l ++ openings_of (node_view h)) × (k.domain.items ≡ l.domain.items)
Resumes l h (Closed p domain) =
    ((o : Scope) (V : Pieces) → node_view p ≡ around o V l (node_view h)) × (opened_inside (node_view p) ≡ ended_inside l ++ openings_of (node_view h)) × (domain.items ≡ l.domain.items)

-- levels with one more list in the bucket that is open
abbrev pub Given : (before after : List Level) → Sets → PartialNode → Next → Type 0
Given before after D h (Job n k) =
    (k ≡ 0) × ((o : Scope) (V : Pieces) → plug o V after (row_in (scope_in o after) V (nested_view n.now) (open_in V [] after)) ≡ plug o V before (node_view h))
    × ((o : Scope) (V : Pieces) → ended_in o V after (row_in (scope_in o after) V (nested_view n.now) (open_in V [] after)) ≡ ended_in o V before (node_view h) ++ openings_of (node_view h)) × (outermost_domain D after ≡ outermost_domain D before)
Given before after D h (Whole p domain) =
    ((o : Scope) (V : Pieces) → node_view p ≡ plug o V before (node_view h)) × ((o : Scope) (V : Pieces) → openings_of (node_view p) ≡ ended_in o V before (node_view h) ++ openings_of (node_view h))
    × (domain.items ≡ outermost_domain D before) × (after ≡ [])

-- nodes that are valid for the schema, below a block step or not
abbrev pub AreValid : Schema → Nodes → Type 0
AreValid s nodes = (unmoved : Bool) × AreValidNodes s unmoved nodes

-- a facet that is, with the nodes nested in it
pub record IsValidNode (s : Schema) (n : Node) : Type 0 where
  pub facet : IsTrue (has_buckets (kind_of n))
  pub valid : (unmoved : Bool) × IsValidFacet s unmoved (facet_view n) (inner_view n)
  pub inner : AreValid s (inner_view n)

-- the facets among nodes are
pub record IsValidNested (s : Schema) (n : Nested) : Type 0 where
  pub valid : (unmoved : Bool) × IsValidFacet s unmoved n.0 n.1
  pub inner : AreValid s n.1

abbrev pub AreValidFacets : Schema → Nodes → Type 0
AreValidFacets s nodes = All (IsValidNested s) (facets_of nodes)

-- buckets of the node by their keys
abbrev pub AreKeysOf : Node → List PartialBucket → Type 0
AreKeysOf n buckets = All (λ b. IsTrue (is_key_of (kind_view (kind_of n)) (entry_of b).0)) buckets

-- a level of a request that is valid, over the segments V
pub record IsLevel (s : Schema) (V : Pieces) (l : Level) : Type 0 where
  pub node : IsValidNode s l.node.now
  pub sets : AreLive V l.domain.items
  pub key : IsTrue (is_key_of (kind_view (kind_of l.node.now)) (key_view l.key))
  pub wait : AreKeysOf l.node.now l.wait.items
  pub first : IsValidNode s l.first.now
  pub others : AreValidFacets s (nodes_view l.others.now)
  pub left : AreValidFacets s (nodes_view l.left.now)

-- a level that is valid stays so, and its next facet is valid
abbrev pub StaysValid : Schema → Pieces → Step → Type 0
StaysValid s V (Opened k n) = IsLevel s V k × IsValidNode s n.now
StaysValid s V (Closed p domain) = AreLive V domain.items

-- what comes next is a valid facet's job, or has a set of live documents for each segment
abbrev pub IsNextOf : Schema → Pieces → Next → Type 0
IsNextOf s V (Job n k) = IsValidNode s n.now
IsNextOf s V (Whole node domain) = AreLive V domain.items
