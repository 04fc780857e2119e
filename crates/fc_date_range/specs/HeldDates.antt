-- Dates on one side of another.
use Rattle.std.specs.Prelude.{ℕ, Bool, ◌&&◌, ◌||◌, ◌==◌}
use Rattle.fc_spec.specs.documents.Val.{Text, same_text}
use Rattle.fc_spec.specs.requests.DateGaps.{is_before, is_last_date_gap}
use Rattle.fc_spec.specs.requests.Request.{DateRange}

-- behind it, or the date itself where it is held
abbrev pub is_from : (low : Text) (with_low : Bool) → Text → Bool
is_from low with_low t = is_before low t || (with_low && same_text t low)

-- before it, or the date itself where it is held
abbrev pub is_to : (high : Text) (with_high : Bool) → Text → Bool
is_to high with_high t = is_before t high || (with_high && same_text t high)

-- whether a gap bucket holds its low end, and its high end
abbrev pub holds_low : DateRange → ℕ → Bool
holds_low g i = g.lower || (g.edge && (i == 0))

abbrev pub holds_high : DateRange → ℕ → Bool
holds_high g i = g.upper || (g.edge && is_last_date_gap g i)
