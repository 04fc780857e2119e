use Rattle.std.proofs.Common.{◌≡◌, ◌++◌, map, drop}
use Rattle.fc_query.specs.FilterView.{filter_view}
use Rattle.fc_query.proofs.copying.copy_filters.Given as goal

abbrev pub invariant-loop-filter : goal.invariant-loop-filter
invariant-loop-filter l = map filter_view l.copies.items ++ map filter_view (drop l.filter-index l.filters) ≡ map filter_view l.filters
