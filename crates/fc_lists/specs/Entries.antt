-- What items with their positions stand for.
use Rattle.std.specs.Prelude.{ℕ, ◌^◌, ◌<◌, ◌≤◌, List, All, vec_len}
use Rattle.std.specs.List.Sorted.{IsNonDecreasingBy}
use Rattle.fc_lists.specs.Items.{items_at, rows_below}
use Rattle.fc_lists.specs.Laid.{Laid}
use Rattle.fc_lists.specs.declared.entries.Entry.{Entry}
use Rattle.fc_lists.specs.declared.entries.Entries.TheInside.{Inside}

-- the items of each position, and those of the next one
abbrev pub laid_of : {T : Type 0} → List (Entry T) → ℕ → Laid T
laid_of entries len = record { rows = rows_below entries len; next = items_at entries len }

abbrev pub gathered : {T : Type 0} → Inside T → Laid T
gathered inside = laid_of inside.entries.items inside.len

-- the positions do not fall, and none is past the next one
pub record AreGathered {T : Type 0} (inside : Inside T) : Type 0 where
  pub few : vec_len inside.entries < 2 ^ 32
  pub rising : IsNonDecreasingBy (λ entry. entry.at) inside.entries.items
  pub within : All (λ entry. entry.at ≤ inside.len) inside.entries.items
