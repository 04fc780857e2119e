-- The keys of the gaps of a range facet over dates.
use Rattle.std.specs.Prelude.{Bool}
use Rattle.fc_spec.specs.requests.Buckets.{Key}
use Rattle.fc_spec.specs.requests.DateGaps.{date_gap_count}
use Rattle.fc_spec.specs.requests.Request.{DateRange}
use Rattle.fc_range.specs.GapKeys.{is_gap_below}

-- the key is that of a gap that is there
abbrev pub is_gap_of : DateRange → Key → Bool
is_gap_of g k = is_gap_below (date_gap_count g) k
