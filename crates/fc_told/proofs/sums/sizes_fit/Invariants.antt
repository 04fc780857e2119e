use Rattle.std.proofs.Common.{◌≡◌, map, drop}
use Rattle.fc_partial.specs.View.{stat_value_view}
use Rattle.fc_told.specs.Fitting.{sizes_fit}
use Rattle.fc_told.proofs.sums.sizes_fit.Given as goal

abbrev pub invariant-loop-at : goal.invariant-loop-at
invariant-loop-at l = sizes_fit l.sizes (map stat_value_view l.values) ≡ sizes_fit (drop l.at l.sizes) (map stat_value_view (drop l.at l.values))
