-- What counters and cells in one list stand for.
use Rattle.std.specs.Prelude.{◌≡◌, ℕ, ◌*◌, List, [], ◌∷◌, map, take, drop, length}
use Rattle.std.specs.List.{AllByRecursion}
use Rattle.fc_spec.specs.requests.Statistics.{StatValue, Stats}
use Rattle.fc_base.specs.StatisticView.{stat_view}
use Rattle.fc_partial.specs.declared.cells.Cells.TheInside.{Inside}
use Rattle.fc_partial.specs.Adding.{HasShape}
use Rattle.fc_partial.specs.Celled.{Celled}
use Rattle.fc_partial.specs.View.{stat_value_view}

-- each count with the next so many values
abbrev pub rows_of : (width : ℕ) → List ℕ → List StatValue → List Stats
rows_of width [] vs = []
rows_of width (c ∷ cs) vs = record { count = c; values = take width vs } ∷ rows_of width cs (drop width vs)

abbrev pub cells_view : Inside → Celled
cells_view c = record { stats = map stat_view c.stats.items; cells = rows_of (length c.stats.items) c.counts.items (map stat_value_view c.values.items) }

-- each number has a value for each of the statistics
pub record IsEven (c : Inside) : Type 0 where
  pub whole : length c.values.items ≡ length c.counts.items * length c.stats.items
  pub shaped : AllByRecursion (HasShape (map stat_view c.stats.items)) (rows_of (length c.stats.items) c.counts.items (map stat_value_view c.values.items))
