-- What a shard lists of a tally from a count on is what its answer lists.
use Rattle.std.specs.Prelude.{◌≡◌, ℕ, List, [], ◌∷◌, ◌++◌, map, Bool, ◌&&◌, ◌||◌, not, nat_le, is_some, if◌then◌else◌}
use Rattle.std.specs.List.{filter}
use Rattle.std.specs.List.Sorted.{IsStrictlySortedBy}
use Rattle.std.specs.Map.{keys_of}
use Rattle.fc_spec.specs.documents.World.{Place}
use Rattle.fc_spec.specs.requests.Request.{Terms, Kind, terms, Nodes, stats_of}
use Rattle.fc_spec.specs.requests.Shape.{holds_exclusion}
use Rattle.fc_spec.specs.requests.Buckets.{missing}
use Rattle.fc_spec.specs.messages.KeyOrder.{key_cmp}
use Rattle.fc_spec.specs.messages.MessageShape.{is_value}
use Rattle.fc_partial.specs.Tallied.{Entry}
use Rattle.fc_partial.specs.Tallying.{entry_at}
use Rattle.fc_answers.specs.LeastSets.{own_least_keys}
use Rattle.fc_answers.specs.Listed.{AreOfBuckets, bucket_entry, entry_or_none, listed_of}

-- a value has at least this count; what is no value may have any
abbrev pub is_of_least : ℕ → Entry → Bool
is_of_least least e = not (is_value e.0) || nat_le least e.1.count

-- missing is asked for and has no entry, and the facet holds an exclusion: it is listed though no document lacks a value
abbrev pub adds_missing : Terms → Nodes → List Entry → Bool
adds_missing t inner es = (t.missing && holds_exclusion inner) && not (is_some (entry_at es missing))

-- what is listed of the entries of a tally from a count on: of a terms facet the values of at least that count, and missing; of other facets what is listed of them
abbrev pub least_of : Kind → Nodes → ℕ → List Entry → List Entry
least_of (terms t) inner least es = filter (is_of_least least) es ++ (if adds_missing t inner es then entry_or_none (stats_of inner) es missing ∷ [] else [])
least_of kind inner least es = listed_of kind inner es

-- of entries in the order of their keys these are the keys that the answer lists
abbrev pub LeastTalliesList : Type 0
LeastTalliesList = (kind : Kind) (inner : Nodes) (least : ℕ) (Y : List Place) (es : List Entry)
    → IsStrictlySortedBy key_cmp (keys_of es) → AreOfBuckets kind (stats_of inner) Y es
    → least_of kind inner least es ≡ map (bucket_entry kind (stats_of inner) Y) (own_least_keys kind inner least Y)
