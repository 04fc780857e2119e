use Rattle.std.proofs.Common.{◌≡◌, map, length}
use Rattle.fc_spec.specs.requests.Combining.{combined_values}
use Rattle.fc_base.specs.StatisticView.{stat_view}
use Rattle.fc_partial.specs.View.{stat_value_view}
use Rattle.fc_partial.proofs.CombiningSoFar.{combined_from, NumbersFrom}
use Rattle.fc_partial.proofs.statistics.combine_values.Given as goal

abbrev pub invariant-loop-at : goal.invariant-loop-at
invariant-loop-at l = record {
  so_far : combined_from l.at (map stat_view l.stats) (map stat_value_view l.values) (map stat_value_view l.others)
      ≡ combined_values (map stat_view l.stats) (map stat_value_view l.initial.values) (map stat_value_view l.others);
  numbers : NumbersFrom l.at (map stat_value_view l.values) (map stat_value_view l.others);
  long : length l.values ≡ length l.stats;
  long_others : length l.others ≡ length l.stats;
}
