-- What exact facets print, and requests that ask for it otherwise. Guide: JSON Facet API, "Terms Facet" (`refine`).
use Rattle.std.specs.Prelude.{ℕ, ◌+◌, List, [], ◌∷◌, ◌++◌, map, length, unwrap_or, Bool, if◌then◌else◌, nat_le}
use Rattle.std.specs.List.{filter}
use Rattle.fc_spec.specs.documents.Val.{Val}
use Rattle.fc_spec.specs.documents.World.{World, Place, on_shards}
use Rattle.fc_spec.specs.queries.Query.{Query, has, is, group, must_not, no_clauses, clause}
use Rattle.fc_spec.specs.requests.Request.{Stat, Terms, Kind, terms, query, DomainChange, Facet, Nodes, no_nodes, statistic, facet, Request, stats_of}
use Rattle.fc_spec.specs.requests.Shape.{is_exact}
use Rattle.fc_spec.specs.requests.Base.{root_domain}
use Rattle.fc_spec.specs.requests.Paths.{at_root, domain}
use Rattle.fc_spec.specs.requests.Buckets.{Key, value, missing}
use Rattle.fc_spec.specs.requests.Ranks.{Entry, page}
use Rattle.fc_spec.specs.requests.Least.{least_count}
use Rattle.fc_spec.specs.replies.Printed.{asked}
use Rattle.fc_spec.specs.replies.Reading.{Reading}
use Rattle.fc_spec.specs.replies.Chosen.{candidate_entries}
use Rattle.fc_spec.specs.replies.Values.{entries_in}

-- the values that a terms facet prints of entries, in the order of their ranks: of those whose count is at least mincount the page
abbrev pub printed_values : Terms → List Entry → List Val
printed_values t entries = map (λ e. e.val) (page t.sort t.offset t.limit (filter (λ e. nat_le t.mincount e.stats.count) entries))

-- the top values of an outermost terms facet: those that a single index prints of its domain
abbrev pub tops : Request → World → DomainChange → Terms → List Stat → List Val
tops r W change t ss = printed_values t (entries_in t ss (domain r W at_root change (root_domain r W)))

-- those of each exact facet, in the order of the facets
abbrev pub tops_at : Request → World → DomainChange → List Stat → Kind → List (List Val) → List (List Val)
tops_at r W change ss (terms t) more = if is_exact (terms t) then tops r W change t ss ∷ more else more
tops_at r W change ss _ more = more

abbrev pub tops_in : Request → World → Nodes → List (List Val)
tops_in r W no_nodes = []
tops_in r W (statistic name s rest) = tops_in r W rest
tops_in r W (facet f inner rest) = tops_at r W f.change (stats_of inner) f.kind (tops_in r W rest)

abbrev pub tops_of : Request → World → List (List Val)
tops_of r W = tops_in r W r.nodes

-- ---- what shards list

-- below which rank values are looked for
abbrev pub top_bound : Terms → ℕ
top_bound t = t.offset + unwrap_or t.limit 0

-- the values that shard i lists from this count on, in index order
abbrev pub values_from : Terms → ℕ → List Place → ℕ → List Val
values_from t least Y i = map (λ e. e.val) (filter (λ e. nat_le least e.stats.count) (entries_in t [] (on_shards (i ∷ []) Y)))

-- the least count that the shards H are asked for, after each has offered: by the parts that are told
abbrev pub least_in : {B D : Type 0} → Reading B D → Terms → List ℕ → D → ℕ
least_in R t H Y = least_count (length H) (top_bound t) (candidate_entries R t no_nodes H Y)

-- ---- the request of the exact facets alone, without what is nested in them

abbrev pub exact_nodes : Nodes → Nodes
exact_nodes no_nodes = no_nodes
exact_nodes (statistic name s rest) = exact_nodes rest
exact_nodes (facet f inner rest) = let more = exact_nodes rest in if is_exact f.kind then facet f no_nodes more else more

abbrev pub only_exact : Request → Request
only_exact r = record r { nodes = exact_nodes r.nodes }

-- ---- the request with query facets in the place of exact ones

-- what the documents in the bucket of a key match, and no others, where the values have the facet's prefix
abbrev pub key_query : Terms → Key → Query
key_query t (value v) = is t.field v
key_query t _ = group (clause must_not (has t.field) no_clauses)

-- a query facet for each key, of the name, domain and nested nodes of the facet; then the nodes after it
abbrev pub key_nodes : Facet → Terms → Nodes → List Key → Nodes → Nodes
key_nodes f t inner [] more = more
key_nodes f t inner (k ∷ ks) more = facet (record f { kind = query (key_query t k) }) inner (key_nodes f t inner ks more)

-- the keys of the buckets that an exact facet prints, where these are its top values
abbrev pub top_keys : Terms → List Val → List Key
top_keys t vs = map value vs ++ asked t.missing missing

-- the first list, and those after it: each exact facet takes one
abbrev pub first_list : List (List Val) → List Val
first_list [] = []
first_list (vs ∷ vss) = vs

abbrev pub lists_after : Bool → List (List Val) → List (List Val)
lists_after is_taken [] = []
lists_after is_taken (vs ∷ vss) = if is_taken then vss else vs ∷ vss

abbrev pub replaced_facet : Kind → Facet → Nodes → List Val → Nodes → Nodes
replaced_facet (terms t) f inner vs more = if is_exact (terms t) then key_nodes f t inner (top_keys t vs) more else facet f inner more
replaced_facet _ f inner vs more = facet f inner more

-- with one list of top values for each exact facet
abbrev pub replaced_nodes : Nodes → List (List Val) → Nodes
replaced_nodes no_nodes vss = no_nodes
replaced_nodes (statistic name s rest) vss = statistic name s (replaced_nodes rest vss)
replaced_nodes (facet f inner rest) vss = replaced_facet f.kind f inner (first_list vss) (replaced_nodes rest (lists_after (is_exact f.kind) vss))

abbrev pub replaced : Request → List (List Val) → Request
replaced r vss = record r { nodes = replaced_nodes r.nodes vss }
