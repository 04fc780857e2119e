-- The top buckets of an answer, by their numbers, over the segments V.
use Rattle.std.specs.Prelude.{◌≡◌, ℕ, zero, suc, ◌+◌, List, [], ◌∷◌, length, map, drop, Bool, Some}
use Rattle.fc_spec.specs.documents.Sets.{places_at}
use Rattle.fc_spec.specs.messages.Message.{Ask, first, more, Partials, no_partials, partial, Want, Way}
use Rattle.fc_spec.specs.messages.Target.{facet_at}
use Rattle.fc_spec.specs.requests.Buckets.{Key, whole}
use Rattle.fc_spec.specs.requests.Paths.{at_root}
use Rattle.fc_spec.specs.requests.Request.{Facet, Request, stats_of}
use Rattle.fc_spec.specs.requests.Statistics.{stats_over}
use Rattle.fc_answers.specs.SetAnswer.{Piece, Pieces, Scope, Sets, base_of, bucket_sets, inside, scope_on, set_answer, set_rows, set_wants, whole_world}
use Rattle.fc_levels.specs.Facets.{Nested}
use Rattle.fc_jobs.specs.Gathered.{AreFirst}
use Rattle.fc_jobs.specs.Walked.{domain_set, nodes_from, scope_along, walked}

abbrev pub asked_count : Ask → ℕ
asked_count first = 1
asked_count (more wants) = length wants

-- the way to the bucket around a wanted one, its node and its key, by its number
abbrev pub path_at : List Want → ℕ → Way
path_at [] i = []
path_at (w ∷ ws) zero = w.path
path_at (w ∷ ws) (suc i) = path_at ws i

abbrev pub node_at : List Want → ℕ → ℕ
node_at [] i = 0
node_at (w ∷ ws) zero = w.node
node_at (w ∷ ws) (suc i) = node_at ws i

abbrev pub key_at : List Want → ℕ → Key
key_at [] i = whole
key_at (w ∷ ws) zero = w.key
key_at (w ∷ ws) (suc i) = key_at ws i

abbrev pub asked_key : Ask → ℕ → Key
asked_key first i = whole
asked_key (more wants) i = key_at wants i

-- the facet of a top bucket: the root, or the wanted bucket's
abbrev pub IsAskedFacet : (root : Nested) → Request → Ask → ℕ → Nested → Type 0
IsAskedFacet root r first i n = n ≡ root
IsAskedFacet root r (more wants) i n = facet_at (node_at wants i) (nodes_from r.nodes (path_at wants i)) ≡ Some n

-- the bucket around it and its facet are those of the one before it
abbrev pub HasSameDomain : Ask → ℕ → Type 0
HasSameDomain first i = ⊥
HasSameDomain (more wants) zero = ⊥
HasSameDomain (more wants) (suc i) = (path_at wants i ≡ path_at wants (suc i)) × (node_at wants i ≡ node_at wants (suc i))

-- the scope of the bucket around it
abbrev pub top_scope : Request → Ask → ℕ → Scope
top_scope r first i = scope_on r at_root
top_scope r (more wants) i = scope_along (scope_on r at_root) r.nodes (path_at wants i)

-- its domain in a segment, and in each of them
abbrev pub top_set : Request → Ask → ℕ → Facet → Piece → List Bool
top_set r first i f p = base_of r [] p
top_set r (more wants) i f p = domain_set (top_scope r (more wants) i) p f (walked (scope_on r at_root) p r.nodes (base_of r [] p) (path_at wants i))

abbrev pub top_domain : Request → Pieces → Ask → ℕ → Facet → Sets
top_domain r V ask i f = map (top_set r ask i f) V

-- sets that are there before the job begins are the first of the domain
abbrev pub FitsTop : (root : Nested) → Request → Pieces → Ask → ℕ → Sets → Type 0
FitsTop root r V ask i domain = (n : Nested) → IsAskedFacet root r ask i n → AreFirst (top_domain r V ask i n.0) domain

-- a bucket of a facet by itself, from the facet's domain, in the scope around the facet
abbrev pub top_bucket : Scope → Pieces → Nested → Key → Sets → Partials
top_bucket o V n k D =
    partial k (stats_over (stats_of n.1) (places_at (whole_world V) (bucket_sets V n.0.kind k D))) (set_rows (inside o n.0 k) V n.1 (bucket_sets V n.0.kind k D)) no_partials

-- buckets, then others
abbrev pub followed : Partials → Partials → Partials
followed no_partials others = others
followed (partial k stats rows rest) others = partial k stats rows (followed rest others)

-- the answer from a top bucket on
abbrev pub answer_from : Request → Pieces → Ask → ℕ → Partials
answer_from r V first zero = set_answer r V first
answer_from r V first (suc i) = no_partials
answer_from r V (more wants) i = set_wants r V (drop i wants)

-- the top bucket with this number is that of the key of the facet
abbrev pub IsTop : Request → Pieces → Ask → ℕ → Nested → Key → Type 0
IsTop r V ask i n k = answer_from r V ask i ≡ followed (top_bucket (top_scope r ask i) V n k (top_domain r V ask i n.0)) (answer_from r V ask (i + 1))
