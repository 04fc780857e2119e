use Rattle.std.proofs.Common.{◌≡◌, map, drop}
use Rattle.fc_exact.specs.ToldFacets.{count_on}
use Rattle.fc_exact.specs.ToldView.{count_view}
use Rattle.fc_exact.proofs.totals.count_on.Given as goal

abbrev pub invariant-loop-one : goal.invariant-loop-one
invariant-loop-one l = count_on l.shard (map count_view (drop l.one-index l.counts)) ≡ count_on l.shard (map count_view l.counts)
