-- The buckets of a range facet over dates. Guide: JSON Facet API, "Range Facet" (`hardend`, `other`, `include`).
use Rattle.std.specs.Prelude.{ℕ, ◌+◌, ◌-◌, [], length, Bool, not, ◌&&◌, ◌||◌, ◌==◌}
use Rattle.std.specs.List.{slice_index_or}
use Rattle.std.specs.Ordering.{is_lt}
use Rattle.fc_spec.specs.documents.Val.{Text, text_cmp, same_text}
use Rattle.fc_spec.specs.requests.Request.{DateRange}

-- the number of gap buckets
abbrev pub date_gap_count : DateRange → ℕ
date_gap_count g = length g.edges - 1

-- it is the number of the last gap bucket
abbrev pub is_last_date_gap : DateRange → ℕ → Bool
is_last_date_gap g i = date_gap_count g == i + 1

-- the low end of a gap bucket, from number 0, and its high end, which is the low end of the next one
abbrev pub low_date : DateRange → ℕ → Text
low_date g i = slice_index_or g.edges i []

abbrev pub high_date : DateRange → ℕ → Text
high_date g i = low_date g (i + 1)

-- the last high end, and the range's start where there is no gap bucket
abbrev pub last_date : DateRange → Text
last_date g = low_date g (date_gap_count g)

-- one canonical text stands before another: it is earlier
abbrev pub is_before : Text → Text → Bool
is_before a b = is_lt (text_cmp a b)

-- strictly between the ends, or an end that is held
abbrev pub date_lies_in : (low : Text) (with_low : Bool) (high : Text) (with_high : Bool) → Text → Bool
date_lies_in low with_low high with_high t = (is_before low t && is_before t high) || (with_low && same_text t low) || (with_high && same_text t high)

-- gap bucket i holds its low end if lower, or if edge and it is the first; its high end if upper, or if edge and it is the last
abbrev pub in_date_gap : DateRange → ℕ → Text → Bool
in_date_gap g i = date_lies_in (low_date g i) (g.lower || (g.edge && (i == 0))) (high_date g i) (g.upper || (g.edge && is_last_date_gap g i))

-- before the start, or the start if outer or neither lower nor edge
abbrev pub in_dates_before : DateRange → Text → Bool
in_dates_before g t = is_before t (low_date g 0) || (same_text t (low_date g 0) && (g.outer || not (g.lower || g.edge)))

-- after the last high end, or that end if outer or neither upper nor edge
abbrev pub in_dates_after : DateRange → Text → Bool
in_dates_after g t = is_before (last_date g) t || (same_text t (last_date g) && (g.outer || not (g.upper || g.edge)))

-- from the start, held if lower or edge, to the last high end, held if upper or edge
abbrev pub in_dates_between : DateRange → Text → Bool
in_dates_between g = date_lies_in (low_date g 0) (g.lower || g.edge) (last_date g) (g.upper || g.edge)
