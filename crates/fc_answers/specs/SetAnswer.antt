-- What a shard answers, from a set of positions for each of the segments that its blocks are cut into, of which some documents are live. V is the list of the segments.
use Rattle.std.specs.Prelude.{◌≡◌, ℕ, List, [], ◌∷◌, ◌++◌, map, replicate, Bool, false, ◌&&◌, All, Option, None, Some, slice_get}
use Rattle.std.specs.List.{list_all}
use Rattle.fc_spec.specs.words.Lists.{joined}
use Rattle.fc_spec.specs.documents.World.{World, Place}
use Rattle.fc_spec.specs.documents.Totals.{document_total}
use Rattle.fc_spec.specs.documents.Document.{Block, Document}
use Rattle.fc_spec.specs.documents.Val.{Text}
use Rattle.fc_spec.specs.documents.Sets.{passing_of, places_at, each_set, each_two}
use Rattle.fc_spec.specs.documents.Live.{HasWholeBlocks, live_in}
use Rattle.fc_spec.specs.queries.Matching.{matches}
use Rattle.fc_spec.specs.requests.Request.{Kind, terms, range, date_range, query, Facet, Nodes, no_nodes, statistic, facet, Request, stats_of}
use Rattle.fc_spec.specs.requests.Buckets.{Key, value, missing, whole, in_bucket, bucket_places}
use Rattle.fc_spec.specs.requests.DomainSets.{changed_set, bucket_set}
use Rattle.fc_spec.specs.requests.Base.{meets_base}
use Rattle.fc_spec.specs.requests.Paths.{Path, at_root, into, excluded_on, meets_path}
use Rattle.fc_spec.specs.requests.Ranks.{below_rank, offered_bound}
use Rattle.fc_spec.specs.requests.Statistics.{stats_over}
use Rattle.fc_spec.specs.replies.Printed.{asked, range_keys, date_range_keys}
use Rattle.fc_spec.specs.replies.Values.{entries_in}
use Rattle.fc_spec.specs.messages.Message.{Partials, no_partials, partial, Rows, no_rows, row, Way, Want, way_of, Ask, first, more}
use Rattle.fc_spec.specs.messages.Target.{facet_at}
use Rattle.fc_spec.specs.messages.Answer.{listed_keys, partials_of, answer}

-- a segment: its blocks, and for each of their documents whether it is live
pub record Piece : Type 0 where
  pub blocks : List Block
  pub live : List Bool

abbrev pub Pieces : Type 0
Pieces = List Piece

-- the blocks of each, live or not
abbrev pub whole_world : Pieces → World
whole_world V = map (λ p. p.blocks) V

-- the live ones
abbrev pub live_world : Pieces → World
live_world V = map (λ p. live_in p.blocks p.live) V

-- in each the documents of a block are all live, or none is
abbrev pub AreWhole : Pieces → Type 0
AreWhole V = All (λ p. HasWholeBlocks p.blocks p.live) V

-- a set of positions for each segment
abbrev pub Sets : Type 0
Sets = List (List Bool)

-- a bucket of the request, by what the facets around it exclude, and what they ask of a document
pub record Scope : Type 0 where
  pub request : Request
  pub excluded : List Text
  pub meets : Document → Bool

-- that of a path
abbrev pub scope_on : Request → Path → Scope
scope_on r path = record { request = r; excluded = excluded_on path; meets = meets_path path }

-- that of the bucket of a key of a facet in it
abbrev pub inside : Scope → Facet → Key → Scope
inside o f key = record {
  request = o.request;
  excluded = o.excluded ++ f.change.exclude;
  meets = λ d. o.meets d && list_all (λ q. matches q d) f.change.filters && in_bucket f.kind key d;
}

-- the live documents of a segment that are in the base without these tags
abbrev pub base_of : Request → List Text → Piece → List Bool
base_of r tags p = passing_of (meets_base r tags) p.blocks p.live

-- the base that is rebuilt in a bucket, without these tags too
abbrev pub base_in : Scope → List Text → Piece → List Bool
base_in o tags p = passing_of (λ d. o.meets d && meets_base o.request (o.excluded ++ tags) d) p.blocks p.live

-- the domain of a facet, from the bucket around it
abbrev pub domain_sets : Scope → Pieces → Facet → Sets → Sets
domain_sets o V f sets = each_two (changed_set f.change) (whole_world V) (map (base_in o f.change.exclude) V) sets

-- a bucket, from its domain
abbrev pub bucket_sets : Pieces → Kind → Key → Sets → Sets
bucket_sets V kind key domain = each_set (bucket_set kind key) (whole_world V) domain

-- the keys that a shard lists of a node over its places Y of the domain, in their order: the values whose rank is below the bound, and missing where asked; the buckets of a range; the whole
abbrev pub own_keys : Kind → Nodes → List Place → List Key
own_keys (terms t) inner Y = map value (map (λ e. e.val) (below_rank t.sort (offered_bound t) (entries_in t (stats_of inner) Y))) ++ listed_keys (terms t) inner Y (asked t.missing missing)
own_keys (range g) inner Y = listed_keys (range g) inner Y (range_keys g)
own_keys (date_range g) inner Y = listed_keys (date_range g) inner Y (date_range_keys g)
own_keys (query q) inner Y = whole ∷ []

-- what is listed for the facets of a bucket, from its sets
abbrev pub set_rows : Scope → Pieces → Nodes → Sets → Rows
set_rows o V no_nodes sets = no_rows
set_rows o V (statistic name s rest) sets = set_rows o V rest sets
set_rows o V (facet f inner rest) sets =
    row
    (partials_of (λ k. stats_over (stats_of inner) (bucket_places f.kind k (places_at (whole_world V) (domain_sets o V f sets)))) (λ k. set_rows (inside o f k) V inner (bucket_sets V f.kind k (domain_sets o V f sets)))
    (own_keys f.kind inner (places_at (whole_world V) (domain_sets o V f sets))))
    (set_rows o V rest sets)

-- a bucket: its path, the nodes nested in its own, and its sets
pub record Spot : Type 0 where
  pub path : Path
  pub nodes : Nodes
  pub sets : Sets

-- the root, whose bucket is the base
abbrev pub root : Request → Pieces → Spot
root r V = record { path = at_root; nodes = r.nodes; sets = map (base_of r []) V }

-- no nodes, and no position
abbrev pub nowhere : Pieces → Spot
nowhere V = record { path = at_root; nodes = no_nodes; sets = map (λ p. replicate (document_total p.blocks) false) V }

-- its scope
abbrev pub scope_of : Request → Spot → Scope
scope_of r s = scope_on r s.path

-- one step further in, to a key's bucket of a facet there
abbrev pub spot_in : Request → Pieces → Key → Spot → Option (Facet × Nodes) → Spot
spot_in r V key s None = nowhere V
spot_in r V key s (Some f) = record { path = into s.path f.0 key; nodes = f.1; sets = bucket_sets V (f.0).kind key (domain_sets (scope_of r s) V f.0 s.sets) }

-- where a way leads from there on
abbrev pub spot_from : Request → Pieces → Spot → Way → Spot
spot_from r V s [] = s
spot_from r V s (step ∷ way) = spot_from r V (spot_in r V step.key s (facet_at step.node s.nodes)) way

-- from the root on
abbrev pub spot_at : Request → Pieces → Way → Spot
spot_at r V way = spot_from r V (root r V) way

-- the shard's bucket of a key, at a spot
abbrev pub set_bucket : Request → Pieces → Spot → Key → Partials → Partials
set_bucket r V s key rest = partial key (stats_over (stats_of s.nodes) (places_at (whole_world V) s.sets)) (set_rows (scope_of r s) V s.nodes s.sets) rest

-- one bucket for each want, in their order
abbrev pub set_wants : Request → Pieces → List Want → Partials
set_wants r V [] = no_partials
set_wants r V (w ∷ ws) = set_bucket r V (spot_at r V (way_of w)) w.key (set_wants r V ws)

-- the message for an ask
abbrev pub set_answer : Request → Pieces → Ask → Partials
set_answer r V first = set_bucket r V (spot_at r V []) whole no_partials
set_answer r V (more wants) = set_wants r V wants

-- however a shard's blocks are cut into segments, and whatever else stands in these, it is the shard's answer
abbrev pub AnswersFromSets : Type 0
AnswersFromSets = (r : Request) (W : World) (i : ℕ) (V : Pieces) → AreWhole V → slice_get W i ≡ Some (joined (live_world V)) → (ask : Ask) → answer r W i ask ≡ set_answer r V ask
