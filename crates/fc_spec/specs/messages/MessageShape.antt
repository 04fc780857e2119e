-- The shape of a message for an ask.
use Rattle.std.specs.Prelude.{ℕ, List, [], ◌∷◌, length, Bool, true, false, not, ◌&&◌, ◌||◌, nat_le, Option, None, Some}
use Rattle.std.specs.Ordering.{is_lt}
use Rattle.fc_spec.specs.requests.Request.{Stat, StatKind, min, max, Terms, Kind, terms, range, date_range, query, Nodes, no_nodes, statistic, facet, Request, stats_of}
use Rattle.fc_spec.specs.requests.Buckets.{Key, value, whole, is_key_of, is_whole}
use Rattle.fc_spec.specs.requests.Shape.{holds_exclusion}
use Rattle.fc_spec.specs.messages.KeyOrder.{key_cmp, same_key}
use Rattle.fc_spec.specs.requests.Statistics.{StatValue, number, extreme, Stats}
use Rattle.fc_spec.specs.requests.Ranks.{offered_bound}
use Rattle.fc_spec.specs.messages.Held.{listed_values}
use Rattle.fc_spec.specs.messages.Message.{Partials, no_partials, partial, Rows, no_rows, row, Want, way_of, Ask, first, more}
use Rattle.fc_spec.specs.messages.Target.{target_of, target_nodes}

-- least and greatest values may be absent, the other statistics are numbers
abbrev pub is_extreme : StatKind → Bool
is_extreme min = true
is_extreme max = true
is_extreme _ = false

abbrev pub value_fits : Stat → StatValue → Bool
value_fits s (number n) = not (is_extreme s.of)
value_fits s (extreme o) = is_extreme s.of

-- one for each statistic, in order
abbrev pub values_fit : List Stat → List StatValue → Bool
values_fit [] [] = true
values_fit [] (v ∷ vs) = false
values_fit (s ∷ ss) [] = false
values_fit (s ∷ ss) (v ∷ vs) = value_fits s v && values_fit ss vs

-- the key is a value
abbrev pub is_value : Key → Bool
is_value (value v) = true
is_value _ = false

-- every bucket has a place but the whole, and those of other keys than a value in a facet that holds an exclusion
abbrev pub count_fits : (holds : Bool) → Key → Stats → Bool
count_fits holds k s = is_whole k || (holds && not (is_value k)) || nat_le 1 s.count

-- the key stands behind the one before it, where there is one
abbrev pub key_ascends : Option Key → Key → Bool
key_ascends None k = true
key_ascends (Some earlier) k = is_lt (key_cmp earlier k)

-- no bucket
abbrev pub is_nothing : Partials → Bool
is_nothing no_partials = true
is_nothing _ = false

-- the number is at most the bound, where there is one
abbrev pub is_at_most_bound : Option ℕ → ℕ → Bool
is_at_most_bound None n = true
is_at_most_bound (Some bound) n = nat_le n bound

-- one bucket of a facet with these nodes nested in it, what is nested in the bucket aside: its key is one of the facet's and stands behind the one before it; it has a place where it needs one, and the facet's statistics
abbrev pub bucket_fits : Kind → Nodes → Option Key → Key → Stats → Bool
bucket_fits kind inner last k stats = key_ascends last k && is_key_of kind k && count_fits (holds_exclusion inner) k stats && values_fit (stats_of inner) stats.values

-- each bucket of a list, however many there are
abbrev pub buckets_fit : Kind → Nodes → Partials → Option Key → Bool
buckets_fit kind inner no_partials last = true
buckets_fit kind inner (partial k stats rows rest) last = bucket_fits kind inner last k stats && buckets_fit kind inner rest (Some k)

-- with the most values that a terms facet may list, where there is a bound
module _ (most : Terms → Option ℕ) where
  -- as many buckets as there have to be, and no more: a query facet lists its whole bucket, a terms facet at most so many values
  abbrev pub is_complete : Kind → Partials → Bool
  is_complete (terms t) ps = is_at_most_bound (most t) (length (listed_values ps))
  is_complete (range g) ps = true
  is_complete (date_range g) ps = true
  is_complete (query q) ps = not (is_nothing ps)

  abbrev mutual
    -- a list of buckets for each of the facets
    pub rows_fit : Rows → Nodes → Bool
    rows_fit no_rows no_nodes = true
    rows_fit rows (statistic name s nodes) = rows_fit rows nodes
    rows_fit (row ps rest) (facet f inner nodes) = is_complete f.kind ps && buckets_fit f.kind inner ps None && insides_fit ps inner && rows_fit rest nodes
    rows_fit _ _ = false

    -- what is nested in each of the buckets of a facet with these nodes
    pub insides_fit : Partials → Nodes → Bool
    insides_fit no_partials inner = true
    insides_fit (partial k stats rows rest) inner = rows_fit rows inner && insides_fit rest inner

  -- a top bucket, read with the key that is asked for and the nodes nested in that key's node
  abbrev pub top_fits : Key → Nodes → Key → Stats → Rows → Bool
  top_fits key nodes k stats rows = same_key key k && values_fit (stats_of nodes) stats.values && rows_fit rows nodes

  -- one bucket for each want, of the wanted key, read with the wanted node
  abbrev pub wants_fit : Nodes → List Want → Partials → Bool
  wants_fit nodes [] no_partials = true
  wants_fit nodes [] (partial k stats rows rest) = false
  wants_fit nodes (w ∷ ws) no_partials = false
  wants_fit nodes (w ∷ ws) (partial k stats rows rest) = top_fits w.key (target_nodes (target_of nodes (way_of w))) k stats rows && wants_fit nodes ws rest

  -- one bucket, the root's
  abbrev pub root_fits : Nodes → Partials → Bool
  root_fits nodes (partial k stats rows no_partials) = top_fits whole nodes k stats rows
  root_fits nodes _ = false

  -- the message has the shape that the ask demands, under that bound
  abbrev pub is_shaped_within : Request → Ask → Partials → Bool
  is_shaped_within r first m = root_fits r.nodes m
  is_shaped_within r (more wants) m = wants_fit r.nodes wants m

-- the message has the shape that the ask demands
abbrev pub is_shaped : Request → Ask → Partials → Bool
is_shaped r ask m = is_shaped_within offered_bound r ask m
