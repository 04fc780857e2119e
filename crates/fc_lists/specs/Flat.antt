-- The items of rows, one row behind the other.
use Rattle.std.specs.Prelude.{Bool, List, [], ◌∷◌, ◌++◌, map}
use Rattle.std.specs.List.{flat_map}

abbrev pub flat : {T : Type 0} → List (List T) → List T
flat rows = flat_map (λ row. row) rows

-- of each item, whether its row is in a set of rows
abbrev pub spread_over : {T : Type 0} → List Bool → List (List T) → List Bool
spread_over [] rows = []
spread_over (b ∷ bits) [] = []
spread_over (b ∷ bits) (row ∷ rows) = map (λ _. b) row ++ spread_over bits rows
