-- The items of a list that a mask picks.
use Rattle.std.specs.Prelude.{ℕ, List, length}
use Rattle.std.specs.List.{items_where_true}
use Rattle.fc_spec.specs.documents.Bits.{first_bits}

-- those at the places whose bit is 1, in order
abbrev pub masked : {T : Type 0} → List ℕ → List T → List T
masked words items = items_where_true (first_bits (length items) words) items
