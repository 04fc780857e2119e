-- The buckets of a range facet, whose end is at least its start and whose gap is at least 1. Guide: JSON Facet API, "Range Facet" (`hardend`, `other`, `include`).
use Rattle.std.specs.Prelude.{ℕ, ◌+◌, ◌-◌, ℤ, pos, ◌+ℤ◌, ◌-ℤ◌, ◌*ℤ◌, unsigned_abs, int_lt, Bool, not, ◌&&◌, ◌||◌, ◌==◌, if◌then◌else◌}
use Rattle.std.specs.Int.{div_ceil}
use Rattle.std.specs.Ordering.{int_eq}
use Rattle.fc_spec.specs.requests.Request.{Range}

-- the number of gap buckets: (end - start) / gap, rounded up
abbrev pub gap_count : Range → ℕ
gap_count g = div_ceil (unsigned_abs (g.end -ℤ g.start)) (unsigned_abs g.gap)

-- it is the number of the last gap bucket
abbrev pub is_last_gap : Range → ℕ → Bool
is_last_gap g i = gap_count g == i + 1

-- the low end of a gap bucket, from number 0
abbrev pub low_end : Range → ℕ → ℤ
low_end g i = g.start +ℤ pos i *ℤ g.gap

-- its high end; with hardend the last one is the range's end
abbrev pub high_end : Range → ℕ → ℤ
high_end g i = if g.hardend && is_last_gap g i then g.end else low_end g (i + 1)

-- the last high end, and the range's end where there is no gap bucket
abbrev pub last_end : Range → ℤ
last_end g = if gap_count g == 0 then g.end else high_end g (gap_count g - 1)

-- strictly between the ends, or an end that is held
abbrev pub lies_in : (low : ℤ) (with_low : Bool) (high : ℤ) (with_high : Bool) → ℤ → Bool
lies_in low with_low high with_high x = (int_lt low x && int_lt x high) || (with_low && int_eq x low) || (with_high && int_eq x high)

-- gap bucket i holds its low end if lower, or if edge and it is the first; its high end if upper, or if edge and it is the last
abbrev pub in_gap : Range → ℕ → ℤ → Bool
in_gap g i = lies_in (low_end g i) (g.lower || (g.edge && (i == 0))) (high_end g i) (g.upper || (g.edge && is_last_gap g i))

-- below the start, or the start if outer or neither lower nor edge
abbrev pub in_before : Range → ℤ → Bool
in_before g x = int_lt x g.start || (int_eq x g.start && (g.outer || not (g.lower || g.edge)))

-- above the last high end, or that end if outer or neither upper nor edge
abbrev pub in_after : Range → ℤ → Bool
in_after g x = int_lt (last_end g) x || (int_eq x (last_end g) && (g.outer || not (g.upper || g.edge)))

-- from the start, held if lower or edge, to the last high end, held if upper or edge
abbrev pub in_between : Range → ℤ → Bool
in_between g = lies_in g.start (g.lower || g.edge) (last_end g) (g.upper || g.edge)
