-- The dates of gaps.
use Rattle.std.specs.Prelude.{ℕ, nat_lt, Bool, ◌&&◌}
use Rattle.fc_spec.specs.documents.Val.{Text}
use Rattle.fc_spec.specs.requests.DateGaps.{date_gap_count, in_date_gap}
use Rattle.fc_spec.specs.requests.Request.{DateRange}

-- a gap that is there holds the date
abbrev pub has_date : DateRange → Text → ℕ → Bool
has_date g t i = nat_lt i (date_gap_count g) && in_date_gap g i t
