-- Statistics that can be combined.
use Rattle.std.specs.Prelude.{◌≡◌, ◌++◌, ◌+◌, ◌^◌, ◌<◌, List, IsTrue}
use Rattle.fc_spec.specs.requests.Request.{Stat}
use Rattle.fc_spec.specs.requests.Statistics.{Stats, stats_over}
use Rattle.fc_spec.specs.documents.World.{Place}
use Rattle.fc_spec.specs.messages.MessageShape.{values_fit}
use Rattle.fc_partial.specs.Numbers.{NumbersAddUp}

-- one value for each of the statistics, in order: a least or greatest value for min and max, a number for the others
abbrev pub HasShape : List Stat → Stats → Type 0
HasShape ss s = IsTrue (values_fit ss s.values)

-- counts and numbers add up within their 64 bits
pub record AddUp (a b : Stats) : Type 0 where
  pub count : a.count + b.count < 2 ^ 64
  pub numbers : NumbersAddUp a.values b.values

-- those of two lists of places, combined, are those of the places of both
abbrev pub IsOfBoth : List Stat → Stats → Stats → Stats → Type 0
IsOfBoth ss a b both = (X Y : List Place) → a ≡ stats_over ss X → b ≡ stats_over ss Y → both ≡ stats_over ss (X ++ Y)
