-- What is combined keeps its shape.
use Rattle.std.proofs.Common.{◌≡◌, ℕ, List, [], ◌∷◌, Bool, true, false, ◌&&◌, Option, Some, None, refl}
use Rattle.std.specs.Option.{IfSome}
use Rattle.std.specs.Cmp.{second_so}
use Rattle.fc_spec.specs.requests.Request.{Stat, StatKind, sum, min, max, countvals, missing}
use Rattle.fc_spec.specs.requests.Statistics.{StatValue, Stats, combined_value}
use Rattle.fc_spec.specs.requests.Combining.{combined_values}
use Rattle.fc_spec.specs.messages.MessageShape.{value_fits, values_fit}
use Rattle.fc_partial.specs.Adding.{HasShape}
use Rattle.fc_partial.specs.Tallying.{with_more}

kind_fits : (k : StatKind) (field : ℕ) (a b : StatValue) → value_fits (record { of = k; field = field }) (combined_value k a b) ≡ true
kind_fits sum field a b = refl
kind_fits min field a b = refl
kind_fits max field a b = refl
kind_fits countvals field a b = refl
kind_fits missing field a b = refl

both : (s t : Bool) → s ≡ true → t ≡ true → (s && t) ≡ true
both true t h k = k
both false t h k = cc

values_fit-combined : (ss : List Stat) (as' bs : List StatValue) → values_fit ss as' ≡ true → values_fit ss bs ≡ true → values_fit ss (combined_values ss as' bs) ≡ true
values_fit-combined [] as' bs h k = refl
values_fit-combined (s ∷ ss) [] bs h k = cc
values_fit-combined (s ∷ ss) (a ∷ as') [] h k = cc
values_fit-combined (s ∷ ss) (a ∷ as') (b ∷ bs) h k =
    both _ _ (kind_fits s.of s.field a b) (values_fit-combined ss as' bs (second_so (value_fits s a) (values_fit ss as') h) (second_so (value_fits s b) (values_fit ss bs) k))

pub with_more_shape : (ss : List Stat) (o : Option Stats) (more : Stats) → IfSome o (HasShape ss) → HasShape ss more → HasShape ss (with_more ss o more)
with_more_shape ss None more h k = k
with_more_shape ss (Some there) more h k = values_fit-combined ss there.values more.values h k
