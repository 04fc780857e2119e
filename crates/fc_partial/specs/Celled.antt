-- Statistics by number.
use Rattle.std.specs.Prelude.{ℕ, List, [], slice_set, slice_index_or}
use Rattle.fc_spec.specs.requests.Request.{Stat}
use Rattle.fc_spec.specs.requests.Statistics.{StatValue, Stats}
use Rattle.fc_spec.specs.requests.Combining.{combined}

-- which statistics are kept, and what each number has, from 0 on
pub record Celled : Type 0 where
  pub stats : List Stat
  pub cells : List Stats

-- what a number has
abbrev pub cell_at : List Stats → ℕ → Stats
cell_at cells i = slice_index_or cells i (record { count = 0; values = [] })

-- the statistics of one document, from their values
abbrev pub of_one : List StatValue → Stats
of_one values = record { count = 1; values = values }

-- the number has one document more, and every other number what it had
abbrev pub counted : Celled → ℕ → List StatValue → Celled
counted c i values = record { stats = c.stats; cells = slice_set c.cells i (combined c.stats (cell_at c.cells i) (of_one values)) }
