-- The order of buckets, and ranks. Guide: JSON Facet API, "Terms Facet" (`sort`).
use Rattle.std.specs.Prelude.{ℕ, ℤ, List, length, Bool, Option, None, Some, option_and_then, option_map, unwrap_or, slice_get, ◌+◌, ◌==◌, count_by, if◌then◌else◌}
use Rattle.std.specs.List.{filter, flat_map, range_with_len}
use Rattle.std.specs.Ordering.{nat_cmp, int_cmp, is_lt, ordering_reverse, ordering_then}
use Rattle.std.specs.declared.cmp.Ordering.{Ordering}
use Rattle.std.specs.declared.cmp.Ordering.TheVariants.{Less, Equal, Greater}
use Rattle.fc_spec.specs.documents.Val.{Val, val_cmp}
use Rattle.fc_spec.specs.words.Lists.{is_below_bound}
use Rattle.fc_spec.specs.requests.Request.{SortKey, by_count, by_index, by_statistic, Sort, Terms}
use Rattle.fc_spec.specs.requests.Statistics.{Stats, shown}

-- a value with the count and the statistics of its places
pub record Entry : Type 0 where
  pub val : Val
  pub stats : Stats

-- the other way round where descending
abbrev pub directed : Bool → Ordering → Ordering
directed descending o = if descending then ordering_reverse o else o

-- what is there before what is absent, in both directions
abbrev pub present_first : Bool → Option ℤ → Option ℤ → Ordering
present_first descending None None = Equal
present_first descending None (Some b) = Greater
present_first descending (Some a) None = Less
present_first descending (Some a) (Some b) = directed descending (int_cmp a b)

-- the n-th statistic of an entry, where it is there
abbrev pub statistic_of : ℕ → Entry → Option ℤ
statistic_of n e = option_and_then shown (slice_get e.stats.values n)

-- by the key of the sort
abbrev pub sort_key_cmp : SortKey → Bool → Entry → Entry → Ordering
sort_key_cmp by_count descending a b = directed descending (nat_cmp a.stats.count b.stats.count)
sort_key_cmp by_index descending a b = directed descending (val_cmp a.val b.val)
sort_key_cmp (by_statistic n) descending a b = present_first descending (statistic_of n a) (statistic_of n b)

-- by the key, and where that ties in index order
abbrev pub entry_cmp : Sort → Entry → Entry → Ordering
entry_cmp s a b = ordering_then (sort_key_cmp s.by s.descending a b) (val_cmp a.val b.val)

-- a stands ahead of b
abbrev pub is_ahead : Sort → Entry → Entry → Bool
is_ahead s a b = is_lt (entry_cmp s a b)

-- how many entries stand ahead of this one
abbrev pub rank : Sort → List Entry → Entry → ℕ
rank s V e = count_by (λ w. is_ahead s w e) V

-- the entries whose rank is below the bound, where they stand
abbrev pub below_rank : Sort → Option ℕ → List Entry → List Entry
below_rank s bound V = filter (λ e. is_below_bound bound (rank s V e)) V

-- the entries of the rank `from`, of the next rank and so on: of n ranks, in their order
abbrev pub of_ranks : Sort → List Entry → ℕ → ℕ → List Entry
of_ranks s V from n = flat_map (λ k. filter (λ e. rank s V e == k) V) (range_with_len from n)

-- the entries of the ranks from offset up to, but not including, offset + limit; without a limit all from offset on
abbrev pub page : Sort → ℕ → Option ℕ → List Entry → List Entry
page s offset limit V = of_ranks s V offset (unwrap_or limit (length V))

-- the sum of a limit and further numbers, where there is a limit
abbrev pub rank_bound : ℕ → Option ℕ → ℕ → Option ℕ
rank_bound offset limit over = option_map (λ n. offset + n + over) limit

-- below which rank a shard offers a value, where the facet has a limit. Guide: JSON Facet API, "Terms Facet" (`overrequest`)
abbrev pub offered_bound : Terms → Option ℕ
offered_bound t = rank_bound t.offset t.limit t.overrequest
