-- What numbers with rows of positions stand for.
use Rattle.std.specs.Prelude.{◌≡◌, ◌<◌, ℕ, Bool, true, List, map, length, slice_index, All}
use Rattle.fc_count.specs.Counting.{Counting}
use Rattle.fc_count.specs.declared.countings.Entry.{Entry}
use Rattle.fc_count.specs.declared.countings.Countings.TheInside.{Inside}

-- each number with the position of its row
abbrev pub counted_at : List ℕ → List Entry → List Counting
counted_at ps es = map (λ e. record { number = e.number; at = slice_index ps e.row }) es

abbrev pub countings_view : Inside → List Counting
countings_view inside = counted_at inside.positions.items inside.entries.items

-- each row is there, and each position is counted: what is so of each that is counted is so of each
pub record AreInRows (inside : Inside) : Type 0 where
  pub there : All (λ e. e.row < length inside.positions.items) inside.entries.items
  pub counted : (p : ℕ → Bool) → All (λ c. p c.at ≡ true) (countings_view inside) → All (λ at. p at ≡ true) inside.positions.items
