-- Statistics of places that fit add up.
use Rattle.std.proofs.Common.{ℕ, pos, ◌+ℤ◌, FitsSigned, w64, List, [], ◌∷◌, ◌++◌, length, map, ap, subst, arith, length-append}
use Rattle.std.specs.Prelude.{count_by}
use Rattle.std.proofs.lemmas.Int.{ints}
use Rattle.std.proofs.lemmas.List.Sums.{count_by-le-length}
use Rattle.fc_spec.specs.documents.Document.{values_of}
use Rattle.fc_spec.specs.documents.World.{Place}
use Rattle.fc_spec.specs.requests.Request.{Stat, StatKind, sum, min, max, countvals, missing}
use Rattle.fc_spec.specs.requests.Statistics.{amount, value_over, statistic_in, stats_over, pair_values, longs_of, total_of}
use Rattle.fc_spec.specs.words.Lists.{is_empty}
use Rattle.fc_spec.proofs.requests.Statistics.{statistic_in-append}
use Rattle.fc_lane.proofs.PickedTotals.{total_size, small_fits}
use Rattle.fc_partial.specs.Adding.{AddUp}
use Rattle.fc_partial.specs.Fitting.{StatisticsFit}
use Rattle.fc_partial.specs.Numbers.{NumbersAddUp}

-- the number that a statistic of joined places adds to a sum
module _ (X Y : List Place) (fit : StatisticsFit (X ++ Y)) where
  fits : (k : StatKind) (field : ℕ) → FitsSigned w64 (amount (statistic_in k field X) +ℤ amount (statistic_in k field Y))
  fits sum field =
      subst (FitsSigned w64) (ap amount (statistic_in-append sum field X Y))
      (small_fits (total_of (longs_of field (X ++ Y))) (omega (arith, total_size (longs_of field (X ++ Y)), fit.sums field)))
  fits min field = omega (arith, ints)
  fits max field = omega (arith, ints)
  fits countvals field =
      subst (FitsSigned w64) (ap amount (statistic_in-append countvals field X Y)) (small_fits (pos (length (pair_values field (X ++ Y)))) (omega (arith, ints, fit.pairs field)))
  fits missing field =
      subst (FitsSigned w64) (ap amount (statistic_in-append missing field X Y))
      (small_fits (pos (count_by (λ (p : Place). is_empty (values_of p.document field)) (X ++ Y))) (omega (arith, ints, fit.places, count_by-le-length (λ (p : Place). is_empty (values_of p.document field)) (X ++ Y))))

  numbers : (ss : List Stat) → NumbersAddUp (map (λ s. value_over s X) ss) (map (λ s. value_over s Y) ss)
  numbers [] = tt
  numbers (s ∷ ss) = (fits s.of s.field, numbers ss)

  pub add_up : (ss : List Stat) → AddUp (stats_over ss X) (stats_over ss Y)
  add_up ss = record { count = omega (arith, fit.places, length-append X Y); numbers = numbers ss }
