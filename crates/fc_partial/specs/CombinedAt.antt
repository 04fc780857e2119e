-- Statistics where one is combined with another of its kind.
use Rattle.std.specs.Prelude.{ℕ, pos, slice_index_or, slice_set}
use Rattle.fc_spec.specs.requests.Request.{StatKind}
use Rattle.fc_spec.specs.requests.Statistics.{StatValue, Stats, number, combined_value}

-- the one at a place
abbrev pub value_at : Stats → ℕ → StatValue
value_at s at = slice_index_or s.values at (number (pos 0))

-- with that at a place combined; the count and the others stay
abbrev pub combined_at : StatKind → ℕ → Stats → StatValue → Stats
combined_at kind at s more = record s { values = slice_set s.values at (combined_value kind (value_at s at) more) }
