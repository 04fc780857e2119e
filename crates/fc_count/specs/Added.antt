-- What was counted by number, put into a tally.
use Rattle.std.specs.Prelude.{◌≡◌, ◌≢◌, ℕ, ℤ, pos, ◌<◌, List, false, Some}
use Rattle.std.specs.Option.{ForSome}
use Rattle.fc_spec.specs.messages.KeyOrder.{same_key}
use Rattle.fc_spec.specs.requests.Buckets.{Key}
use Rattle.fc_spec.specs.requests.Request.{Stat}
use Rattle.fc_spec.specs.requests.Statistics.{Stats}
use Rattle.fc_partial.specs.Adding.{AddUp, HasShape}
use Rattle.fc_partial.specs.Celled.{cell_at}
use Rattle.fc_partial.specs.Tallied.{Entry, Tallied}
use Rattle.fc_partial.specs.Tallying.{entry_at, with_more}

-- different numbers below the bound have different keys
abbrev pub AreApart : (ℤ → Key) → ℕ → Type 0
AreApart key bound = (i j : ℕ) → i < bound → j < bound → i ≢ j → same_key (key (pos i)) (key (pos j)) ≡ false

-- each cell has a value for each of the statistics
abbrev pub AreShaped : List Stat → List Stats → ℕ → Type 0
AreShaped ss cells bound = (i : ℕ) → i < bound → HasShape ss (cell_at cells i)

-- what each number with a document has adds up with what its key has
abbrev pub CellsAddUp : (ℤ → Key) → List Stats → ℕ → List Entry → Type 0
CellsAddUp key cells bound es = (i : ℕ) → i < bound → 0 < (cell_at cells i).count → ForSome (entry_at es (key (pos i))) (λ there. AddUp there (cell_at cells i))

-- the key of each number with a document has what the number has too, and nothing else changes
pub record HaveAdded (key : ℤ → Key) (cells : List Stats) (bound : ℕ) (old new : Tallied) : Type 0 where
  pub stats : new.stats ≡ old.stats
  pub some : (i : ℕ) → i < bound → 0 < (cell_at cells i).count
      → entry_at new.entries (key (pos i)) ≡ Some (with_more old.stats (entry_at old.entries (key (pos i))) (cell_at cells i))
  pub none : (i : ℕ) → i < bound → (cell_at cells i).count ≡ 0 → entry_at new.entries (key (pos i)) ≡ entry_at old.entries (key (pos i))
  pub others : (q : Key) → ((i : ℕ) → i < bound → same_key q (key (pos i)) ≡ false) → entry_at new.entries q ≡ entry_at old.entries q
