use Rattle.std.proofs.Common.{◌≡◌, ◌++◌, ◌*◌, ◌-◌, ◌^◌, ◌≤◌, map, drop}
use Rattle.std.specs.Prelude.{All}
use Rattle.fc_spec.specs.words.Lists.{numbers_below}
use Rattle.fc_exact.specs.ToldFacets.{total_entry}
use Rattle.fc_exact.specs.ToldView.{total_view, value_view}
use Rattle.fc_exact.proofs.totals.totals.Given as goal

abbrev pub invariant-loop-value : goal.invariant-loop-value
invariant-loop-value l = record {
  totals : map total_view l.totals.items ++ map (total_entry (numbers_below l.shards)) (map value_view (drop l.value-index l.values)) ≡ map (total_entry (numbers_below l.shards)) (map value_view l.values);
  bound : All (λ total. total.count ≤ l.shards * (2 ^ 64 - 1)) l.totals.items;
}
