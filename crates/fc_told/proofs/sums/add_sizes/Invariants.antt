use Rattle.std.proofs.Common.{◌≡◌, ◌≤◌, ◌++◌, map, drop, take, length}
use Rattle.fc_partial.specs.View.{stat_value_view}
use Rattle.fc_told.specs.Adding.{sizes_added}
use Rattle.fc_told.proofs.sums.add_sizes.Given as goal

abbrev pub invariant-loop-at : goal.invariant-loop-at
invariant-loop-at l = record {
  within : l.at ≤ length l.sizes.items;
  added : sizes_added l.fn.sizes.items (map stat_value_view l.values) ≡ take l.at l.sizes.items ++ sizes_added (drop l.at l.sizes.items) (map stat_value_view (drop l.at l.values));
}
