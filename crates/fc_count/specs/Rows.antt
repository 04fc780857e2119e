-- Numbers with rows of statistics.
use Rattle.std.specs.Prelude.{◌≡◌, ◌+◌, ◌*◌, ◌<◌, ◌≤◌, ℕ, ℤ, List, [], ◌∷◌, map, false, length, slice_index_or, slice_range}
use Rattle.std.specs.List.{filter, flat_map}
use Rattle.std.specs.Ordering.{int_cmp, int_eq, is_lt}
use Rattle.fc_spec.specs.documents.Document.{Block}
use Rattle.fc_spec.specs.documents.World.{Place}
use Rattle.fc_spec.specs.requests.Request.{Stat}
use Rattle.fc_spec.specs.requests.Statistics.{StatValue, stats_over}
use Rattle.fc_partial.specs.declared.statistics.StatValue as code
use Rattle.fc_partial.specs.Fitting.{StatisticsFit}
use Rattle.fc_partial.specs.View.{stat_value_view}
use Rattle.fc_kind.specs.PlaceAt.{place_at}
use Rattle.fc_count.specs.declared.countings.Entry.{Entry}

-- those of a number, in the order in which they stand
abbrev pub entries_of : ℤ → List Entry → List Entry
entries_of n es = filter (λ e. int_eq e.number n) es

-- numbers do not fall
abbrev pub Rise : List Entry → Type 0
Rise es = (i j : ℕ) (d : Entry) → i ≤ j → j < length es → is_lt (int_cmp (slice_index_or es j d).number (slice_index_or es i d).number) ≡ false

-- the statistics of a document
abbrev pub values_of_place : List Stat → Place → List StatValue
values_of_place ss p = (stats_over ss (p ∷ [])).values

-- those of the documents at positions, in one list
abbrev pub values_at : List Block → List Stat → List ℕ → List StatValue
values_at blocks ss ps = flat_map (λ at. values_of_place ss (place_at blocks at)) ps

-- the row of each entry, where a row has so many values
abbrev pub rows_of : ℕ → List code.StatValue → List Entry → List (List StatValue)
rows_of width values es = map (λ e. map stat_value_view (slice_range values (e.row * width) (e.row * width + width))) es

-- the rows of entries are those of documents whose statistics fit
pub record AreOfFitting (ss : List Stat) (rows : List (List StatValue)) : Type 0 where
  pub places : List Place
  pub same : rows ≡ map (values_of_place ss) places
  pub fit : StatisticsFit places
