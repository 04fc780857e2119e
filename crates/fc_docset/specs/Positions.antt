-- A set of positions is a list with a Bool for each position below its length.
use Rattle.std.specs.Prelude.{ℕ, Bool, false, List, length, slice_index_or}
use Rattle.std.specs.List.{items_where_true, range_with_len}

-- whether the position is in the set
abbrev pub contains : List Bool → ℕ → Bool
contains set at = slice_index_or set at false

-- the positions in the set, where the first has the number `from`, in ascending order
abbrev pub positions_from : ℕ → List Bool → List ℕ
positions_from from set = items_where_true set (range_with_len from (length set))

-- the positions in the set, in ascending order
abbrev pub positions : List Bool → List ℕ
positions set = positions_from 0 set
