-- The keys of the gaps of a range facet.
use Rattle.std.specs.Prelude.{ℕ, ℤ, unsigned_abs, Bool, false, nat_lt}
use Rattle.fc_spec.specs.requests.Buckets.{Key, gap}
use Rattle.fc_spec.specs.requests.Gaps.{gap_count}
use Rattle.fc_spec.specs.requests.Request.{Range}

-- that of a gap, by its number
abbrev pub gap_key : ℤ → Key
gap_key number = gap (unsigned_abs number)

-- the key is that of a gap below a number
abbrev pub is_gap_below : ℕ → Key → Bool
is_gap_below n (gap i) = nat_lt i n
is_gap_below n k = false

-- the key is that of a gap that is there
abbrev pub is_gap_of : Range → Key → Bool
is_gap_of g k = is_gap_below (gap_count g) k
