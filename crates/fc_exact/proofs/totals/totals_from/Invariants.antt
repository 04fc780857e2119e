use Rattle.std.proofs.Common.{◌≡◌, ◌++◌, map}
use Rattle.std.specs.Prelude.{nat_le}
use Rattle.std.specs.List.{filter}
use Rattle.fc_exact.specs.ToldView.{total_view}
use Rattle.fc_exact.proofs.totals.totals_from.Given as goal

abbrev pub invariant-loop-one : goal.invariant-loop-one
invariant-loop-one l = map total_view l.kept.items ++ filter (λ e. nat_le l.least e.stats.count) (map total_view l.one-iterator.rest.items) ≡ filter (λ e. nat_le l.least e.stats.count) (map total_view l.fn.totals.items)
