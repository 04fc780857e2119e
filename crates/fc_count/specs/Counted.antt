-- What numbers have when documents were counted.
use Rattle.std.specs.Prelude.{◌≡◌, ℕ, ◌<◌, List, length, map, Bool, if◌then◌else◌}
use Rattle.std.specs.List.{filter}
use Rattle.fc_spec.specs.documents.Document.{Block}
use Rattle.fc_spec.specs.documents.World.{Place}
use Rattle.fc_spec.specs.requests.Combining.{combined}
use Rattle.fc_spec.specs.requests.Request.{Stat}
use Rattle.fc_spec.specs.requests.Statistics.{StatValue, stats_over}
use Rattle.fc_partial.specs.Celled.{Celled, cell_at, of_one}
use Rattle.fc_kind.specs.PlaceAt.{place_at}

-- each number that holds the document has it once more, and every other number what it had
pub record HaveCounted (holds : ℕ → Bool) (values : List StatValue) (old new : Celled) : Type 0 where
  pub stats : new.stats ≡ old.stats
  pub size : length new.cells ≡ length old.cells
  pub each : (i : ℕ) → i < length old.cells → cell_at new.cells i ≡ (if holds i then combined old.stats (cell_at old.cells i) (of_one values) else cell_at old.cells i)

-- the places of those positions that a number holds
abbrev pub held_places : List Block → (holds : ℕ → ℕ → Bool) → List ℕ → ℕ → List Place
held_places blocks holds ks i = map (place_at blocks) (filter (λ at. holds at i) ks)

-- each number below the bound has the statistics of the places that it holds
pub record AreCounted (blocks : List Block) (holds : ℕ → ℕ → Bool) (bound : ℕ) (ss : List Stat) (ks : List ℕ) (cells : Celled) : Type 0 where
  pub stats : cells.stats ≡ ss
  pub size : length cells.cells ≡ bound
  pub each : (i : ℕ) → i < bound → cell_at cells.cells i ≡ stats_over ss (held_places blocks holds ks i)
