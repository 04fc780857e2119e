-- The exact reply: that of a single index, for a world taken as one set of places. Guide: JSON Facet API, "Nested Facets".
use Rattle.std.specs.Prelude.{List, [], ◌∷◌, length, None, ◌==◌}
use Rattle.fc_spec.specs.documents.World.{World, Place}
use Rattle.fc_spec.specs.requests.Request.{Stat, Kind, terms, range, query, date_range, Facet, Nodes, no_nodes, statistic, facet, Request, stats_of}
use Rattle.fc_spec.specs.requests.Base.{root_domain}
use Rattle.fc_spec.specs.requests.Buckets.{Key, whole, bucket_places}
use Rattle.fc_spec.specs.requests.Paths.{Path, at_root, into, domain}
use Rattle.fc_spec.specs.requests.Statistics.{value_over, shown}
use Rattle.fc_spec.specs.replies.Reply.{Bucket, bucket, Facets, no_facets, with_buckets}
use Rattle.fc_spec.specs.replies.Printed.{range_keys, date_range_keys, terms_keys, statistic_part, facet_part}
use Rattle.fc_spec.specs.replies.Values.{entries_in}

-- the keys of the buckets that a node prints over its domain
abbrev pub exact_keys : Kind → List Stat → List Place → List Key
exact_keys (terms t) ss Y = terms_keys t (entries_in t ss Y)
exact_keys (range g) ss Y = range_keys g
exact_keys (query q) ss Y = whole ∷ []
exact_keys (date_range g) ss Y = date_range_keys g

-- a facet over its domain, each bucket over its places; then the facets after it
abbrev pub exact_buckets : Facet → List Stat → (Key → List Place → Facets) → List Place → Facets → Facets
exact_buckets f ss inside Y more =
    with_buckets f.name f.kind (λ k. length (bucket_places f.kind k Y)) (λ k. inside k (bucket_places f.kind k Y)) (exact_keys f.kind ss Y) more

-- the facets of the bucket of a path, over the places Q
abbrev pub exact_facets : Request → World → Nodes → Path → List Place → Facets
exact_facets r W no_nodes path Q = no_facets
exact_facets r W (statistic name s rest) path Q = statistic_part (length Q == 0) name (shown (value_over s Q)) (exact_facets r W rest path Q)
exact_facets r W (facet f inner rest) path Q =
    let more = exact_facets r W rest path Q in
    facet_part (length Q == 0) f (exact_buckets f (stats_of inner) (λ k P. exact_facets r W inner (into path f k) P) (domain r W path f.change Q) more) more

-- the root is the bucket over the root domain
abbrev pub exact : Request → World → Bucket
exact r W = bucket None (length (root_domain r W)) (exact_facets r W r.nodes at_root (root_domain r W))
