-- Numbers of statistics that can be added.
use Rattle.std.specs.Prelude.{List, [], ◌∷◌, FitsSigned, ◌+ℤ◌}
use Rattle.std.specs.Int.{w64}
use Rattle.fc_spec.specs.requests.Statistics.{StatValue, amount}

-- those of each place add up within 64 bits signed
abbrev pub NumbersAddUp : List StatValue → List StatValue → Type 0
NumbersAddUp [] bs = Unit {0}
NumbersAddUp (a ∷ as') [] = Unit {0}
NumbersAddUp (a ∷ as') (b ∷ bs) = FitsSigned w64 (amount a +ℤ amount b) × NumbersAddUp as' bs
