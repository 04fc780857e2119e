-- What a shard answers: by the definitions of replies, on its own places.
use Rattle.std.specs.Prelude.{ℕ, List, [], ◌∷◌, ◌++◌, map, not, if◌then◌else◌}
use Rattle.std.specs.List.{filter}
use Rattle.fc_spec.specs.words.Lists.{is_empty}
use Rattle.fc_spec.specs.documents.World.{World, Place, on_shards}
use Rattle.fc_spec.specs.requests.Request.{Kind, terms, range, date_range, query, Facet, Nodes, no_nodes, statistic, facet, Request, stats_of}
use Rattle.fc_spec.specs.requests.Paths.{Path, into, domain}
use Rattle.fc_spec.specs.requests.Shape.{holds_exclusion}
use Rattle.fc_spec.specs.requests.Buckets.{Key, value, missing, whole, bucket_places}
use Rattle.fc_spec.specs.requests.Statistics.{Stats, stats_over}
use Rattle.fc_spec.specs.replies.Printed.{asked, range_keys, date_range_keys}
use Rattle.fc_spec.specs.replies.Reading.{offered}
use Rattle.fc_spec.specs.messages.Target.{target_of, target_path, target_places, target_nodes}
use Rattle.fc_spec.specs.messages.Message.{Partials, no_partials, partial, Rows, no_rows, row, Way, Want, way_of, Ask, first, more}

-- those of the keys whose bucket is not empty
abbrev pub not_empty : Kind → List Place → List Key → List Key
not_empty kind Y keys = filter (λ k. not (is_empty (bucket_places kind k Y))) keys

-- those that are listed of a facet with these nodes nested in it: all of them where it holds an exclusion, whose domain needs none of the bucket's places
abbrev pub listed_keys : Kind → Nodes → List Place → List Key → List Key
listed_keys kind inner Y keys = if holds_exclusion inner then keys else not_empty kind Y keys

-- the keys that shard i lists of a node over its part Y of the domain, in their order: what it offers, and missing where asked; the buckets of a range; the whole
abbrev pub answer_keys : Kind → Nodes → List Place → ℕ → List Key
answer_keys (terms t) inner Y i = map value (offered t inner Y i) ++ listed_keys (terms t) inner Y (asked t.missing missing)
answer_keys (range g) inner Y i = listed_keys (range g) inner Y (range_keys g)
answer_keys (date_range g) inner Y i = listed_keys (date_range g) inner Y (date_range_keys g)
answer_keys (query q) inner Y i = whole ∷ []

-- one bucket for each key
abbrev pub partials_of : (stats : Key → Stats) → (rows : Key → Rows) → List Key → Partials
partials_of stats rows [] = no_partials
partials_of stats rows (k ∷ ks) = partial k (stats k) (rows k) (partials_of stats rows ks)

-- shard i's part of the domain of a node in the bucket of a path, from the bucket's part X there
abbrev pub answer_domain : Request → World → ℕ → Path → Facet → List Place → List Place
answer_domain r W i path f X = on_shards (i ∷ []) (domain r W path f.change X)

-- what shard i lists for the facets of the bucket of a path, from its part X of the bucket
abbrev pub answer_rows : Request → World → ℕ → Path → Nodes → List Place → Rows
answer_rows r W i path no_nodes X = no_rows
answer_rows r W i path (statistic name s rest) X = answer_rows r W i path rest X
answer_rows r W i path (facet f inner rest) X =
    row
    (partials_of (λ k. stats_over (stats_of inner) (bucket_places f.kind k (answer_domain r W i path f X)))
    (λ k. answer_rows r W i (into path f k) inner (bucket_places f.kind k (answer_domain r W i path f X)))
    (answer_keys f.kind inner (answer_domain r W i path f X) i))
    (answer_rows r W i path rest X)

-- shard i's bucket of a key, where a way leads
abbrev pub answer_bucket : Request → World → ℕ → Way → Key → Partials → Partials
answer_bucket r W i way key rest =
    let t = target_of r.nodes way in
    let X = on_shards (i ∷ []) (target_places r W t) in
    partial key (stats_over (stats_of (target_nodes t)) X) (answer_rows r W i (target_path t) (target_nodes t) X) rest

-- one bucket for each want, in their order
abbrev pub answer_wants : Request → World → ℕ → List Want → Partials
answer_wants r W i [] = no_partials
answer_wants r W i (w ∷ ws) = answer_bucket r W i (way_of w) w.key (answer_wants r W i ws)

-- the message of shard i for an ask
abbrev pub answer : Request → World → ℕ → Ask → Partials
answer r W i first = answer_bucket r W i [] whole no_partials
answer r W i (more wants) = answer_wants r W i wants
