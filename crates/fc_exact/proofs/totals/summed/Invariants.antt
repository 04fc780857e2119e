use Rattle.std.proofs.Common.{◌≡◌, ◌*◌, ◌-◌, ◌^◌, ◌≤◌, map}
use Rattle.std.specs.Prelude.{sum, unwrap_or}
use Rattle.fc_spec.specs.words.Lists.{numbers_below}
use Rattle.fc_exact.specs.ToldFacets.{count_on}
use Rattle.fc_exact.specs.ToldView.{count_view}
use Rattle.fc_exact.proofs.totals.summed.Given as goal

abbrev pub invariant-loop-shard : goal.invariant-loop-shard
invariant-loop-shard l = record {
  together : l.sum ≡ sum (map (λ i. unwrap_or (count_on i (map count_view l.counts)) 0) (numbers_below l.shard));
  bound : l.sum ≤ l.shard * (2 ^ 64 - 1);
}
