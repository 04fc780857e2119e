-- Statistics of places fit the statistics that are asked for.
use Rattle.std.proofs.Common.{◌≡◌, ℕ, List, [], ◌∷◌, true, refl}
use Rattle.std.proofs.lemmas.Bool.{and_from}
use Rattle.fc_spec.specs.documents.World.{Place}
use Rattle.fc_spec.specs.requests.Request.{StatKind, sum, min, max, countvals, missing, Stat}
use Rattle.fc_spec.specs.requests.Statistics.{statistic_in, stats_over}
use Rattle.fc_spec.specs.messages.MessageShape.{value_fits, values_fit}

-- one for each, in order, of its kind
pub values_fit-stats_over : (ss : List Stat) (X : List Place) → values_fit ss (stats_over ss X).values ≡ true
values_fit-stats_over [] X = refl
values_fit-stats_over (s ∷ ss) X = and_from _ _ (go s.of s.field) (values_fit-stats_over ss X)
  where
    go : (k : StatKind) (field : ℕ) → value_fits (record { of = k; field = field }) (statistic_in k field X) ≡ true
    go sum field = refl
    go min field = refl
    go max field = refl
    go countvals field = refl
    go missing field = refl
