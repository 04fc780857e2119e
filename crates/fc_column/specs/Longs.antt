-- The integers of a position.
use Rattle.std.specs.Prelude.{◌≡◌, ℤ, Bool, true, List}
use Rattle.std.specs.List.{list_any}
use Rattle.fc_lane.specs.Between.{is_between}

-- whether one of the values lies between two numbers, both included
abbrev pub has_between : ℤ → ℤ → List ℤ → Bool
has_between lo hi values = list_any (is_between lo hi) values

-- each of two numbers is an integer of some position
pub record AreThere (least greatest : ℤ) (column : List (List ℤ)) : Type 0 where
  pub least_there : list_any (has_between least least) column ≡ true
  pub greatest_there : list_any (has_between greatest greatest) column ≡ true
