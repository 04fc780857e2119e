-- Range facets, over integers or over dates.
use Rattle.std.specs.Prelude.{◌≡◌, ℕ, List, ◌++◌, map, Bool, false}
use Rattle.fc_spec.specs.words.Lists.{numbers_below}
use Rattle.fc_spec.specs.requests.Request.{Kind, range, date_range}
use Rattle.fc_spec.specs.requests.Gaps.{gap_count}
use Rattle.fc_spec.specs.requests.DateGaps.{date_gap_count}
use Rattle.fc_spec.specs.requests.Buckets.{Key, gap, before, between, after}
use Rattle.fc_spec.specs.replies.Printed.{asked}
use Rattle.fc_facet.specs.RangeGaps.{HasFewGaps, HasFewEdges}
use Rattle.fc_request.specs.declared.ranged.RangeBuckets.{RangeBuckets}

-- it is a range facet, and its gaps can be counted
abbrev pub IsRange : Kind → Type 0
IsRange (range g) = HasFewGaps g
IsRange (date_range g) = HasFewEdges g
IsRange _ = ⊥

-- how many gaps it has
abbrev pub gaps_of : Kind → ℕ
gaps_of (range g) = gap_count g
gaps_of (date_range g) = date_gap_count g
gaps_of _ = 0

-- which buckets beside them it asks for
abbrev pub asks_before : Kind → Bool
asks_before (range g) = g.before
asks_before (date_range g) = g.before
asks_before _ = false

abbrev pub asks_between : Kind → Bool
asks_between (range g) = g.between
asks_between (date_range g) = g.between
asks_between _ = false

abbrev pub asks_after : Kind → Bool
asks_after (range g) = g.after
asks_after (date_range g) = g.after
asks_after _ = false

-- the keys of its gaps, and those of the buckets beside them
abbrev pub gap_keys_of : Kind → List Key
gap_keys_of k = map gap (numbers_below (gaps_of k))

abbrev pub beside_keys_of : Kind → List Key
beside_keys_of k = asked (asks_before k) before ++ (asked (asks_between k) between ++ asked (asks_after k) after)

abbrev pub keys_of_range : Kind → List Key
keys_of_range k = gap_keys_of k ++ beside_keys_of k

-- they are its buckets
pub record AreBucketsOf (k : Kind) (b : RangeBuckets) : Type 0 where
  pub gaps : b.gaps ≡ gaps_of k
  pub before : b.before ≡ asks_before k
  pub between : b.between ≡ asks_between k
  pub after : b.after ≡ asks_after k
