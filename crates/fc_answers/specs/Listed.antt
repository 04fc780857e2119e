-- What a shard lists of a tally is what its answer lists.
use Rattle.std.specs.Prelude.{◌≡◌, List, [], ◌∷◌, ◌++◌, map, ◌&&◌, not, None, Some, unwrap_or, if◌then◌else◌}
use Rattle.std.specs.List.Sorted.{IsStrictlySortedBy}
use Rattle.std.specs.Map.{keys_of}
use Rattle.fc_spec.specs.words.Lists.{is_empty}
use Rattle.fc_spec.specs.documents.World.{Place}
use Rattle.fc_spec.specs.requests.Request.{Stat, Terms, Kind, terms, range, date_range, query, Nodes, stats_of}
use Rattle.fc_spec.specs.requests.Shape.{holds_exclusion}
use Rattle.fc_spec.specs.replies.Printed.{asked, range_keys, date_range_keys}
use Rattle.fc_spec.specs.requests.Buckets.{Key, missing, whole, bucket_places, is_key_of}
use Rattle.fc_spec.specs.requests.Ranks.{below_rank, offered_bound}
use Rattle.fc_spec.specs.requests.Statistics.{stats_over}
use Rattle.fc_spec.specs.messages.KeyOrder.{key_cmp}
use Rattle.fc_partial.specs.Tallied.{Entry}
use Rattle.fc_partial.specs.Tallying.{entry_at}
use Rattle.fc_refine.specs.Tops.{values_of_tally, of_entry, top_of}
use Rattle.fc_answers.specs.SetAnswer.{own_keys}

-- the entry of a key, which is that of no place where there is none
abbrev pub entry_or_none : List Stat → List Entry → Key → Entry
entry_or_none ss es k = (k, unwrap_or (entry_at es k) (stats_over ss []))

-- the values among the entries whose rank is below the bound
abbrev pub top_values : Terms → List Entry → List Entry
top_values t es = map of_entry (below_rank t.sort (offered_bound t) (values_of_tally es))

-- what is listed of the entries of a tally of a facet with these nodes nested in it: of a terms facet the values whose rank is below the bound, and missing; of a range all; of a query the whole. In a facet that holds an exclusion each key but a value is there, with the entry of no place where it has none
abbrev pub listed_of : Kind → Nodes → List Entry → List Entry
listed_of (terms t) inner es = if holds_exclusion inner then top_values t es ++ map (entry_or_none (stats_of inner) es) (asked t.missing missing) else top_of t.sort (offered_bound t) es
listed_of (range g) inner es = if holds_exclusion inner then map (entry_or_none (stats_of inner) es) (range_keys g) else es
listed_of (date_range g) inner es = if holds_exclusion inner then map (entry_or_none (stats_of inner) es) (date_range_keys g) else es
listed_of (query q) inner es = entry_or_none (stats_of inner) es whole ∷ []

-- the entries are those of the node's buckets that have one of the places, each with the statistics of its places
abbrev pub AreOfBuckets : Kind → List Stat → List Place → List Entry → Type 0
AreOfBuckets kind ss Y es = (k : Key) → entry_at es k
    ≡ (if is_key_of kind k && not (is_empty (bucket_places kind k Y)) then Some (stats_over ss (bucket_places kind k Y)) else None)

-- a key, with the statistics of its bucket
abbrev pub bucket_entry : Kind → List Stat → List Place → Key → Entry
bucket_entry kind ss Y k = (k, stats_over ss (bucket_places kind k Y))

-- listed of such entries, in the order of their keys, are the keys that the answer lists
abbrev pub TalliesList : Type 0
TalliesList = (kind : Kind) (inner : Nodes) (Y : List Place) (es : List Entry)
    → IsStrictlySortedBy key_cmp (keys_of es) → AreOfBuckets kind (stats_of inner) Y es
    → listed_of kind inner es ≡ map (bucket_entry kind (stats_of inner) Y) (own_keys kind inner Y)
