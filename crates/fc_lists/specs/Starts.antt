-- Lists in one list, by the places where they start.
use Rattle.std.specs.Prelude.{◌≡◌, ℕ, ◌+◌, ◌-◌, ◌<◌, List, length, map, slice_index, slice_range, Option, None, Some, Vec}
use Rattle.std.specs.List.{range_with_len}
use Rattle.std.specs.List.Sorted.{IsNonDecreasing}
use Rattle.std.specs.declared.alloc.Global.{Global}

-- the items from one start up to the next
abbrev pub part_at : {T : Type 0} → List ℕ → List T → ℕ → List T
part_at starts items at = slice_range items (slice_index starts at) (slice_index starts (at + 1))

-- the lists
abbrev pub cut : {T : Type 0} → List ℕ → List T → List (List T)
cut starts items = map (part_at starts items) (range_with_len 0 (length starts - 1))

-- the starts; where none is kept, each list has one item
abbrev pub starts_in : Option (Vec ℕ Global) → ℕ → List ℕ
starts_in None count = range_with_len 0 (count + 1)
starts_in (Some starts) count = starts.items

-- no list starts before the one ahead of it, and the last place is the end of all items
pub record AreStarts (starts : List ℕ) (size : ℕ) : Type 0 where
  pub some : 0 < length starts
  pub rising : IsNonDecreasing starts
  pub last : slice_index starts (length starts - 1) ≡ size
