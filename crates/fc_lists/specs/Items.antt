-- Items with their positions.
use Rattle.std.specs.Prelude.{ℕ, ◌==◌, List, [], ◌∷◌, map, if◌then◌else◌}
use Rattle.std.specs.List.{range_with_len}
use Rattle.fc_lists.specs.declared.entries.Entry.{Entry}

-- the items of a position
abbrev pub items_at : {T : Type 0} → List (Entry T) → ℕ → List T
items_at [] at = []
items_at (entry ∷ entries) at = if entry.at == at then entry.item ∷ items_at entries at else items_at entries at

-- the items of each position below a number of positions
abbrev pub rows_below : {T : Type 0} → List (Entry T) → ℕ → List (List T)
rows_below entries len = map (items_at entries) (range_with_len 0 len)
