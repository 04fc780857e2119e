use Rattle.std.proofs.Common.{◌≡◌, ◌≤◌, ◌+◌, drop}
use Rattle.std.specs.Prelude.{◌+ℤ◌, nat_abs, sum_by}
use Rattle.fc_spec.specs.requests.Statistics.{total_of}
use Rattle.fc_spec.specs.scripts.ScriptTotals.{total_limit}
use Rattle.fc_partial.specs.Singles.{integers_at}
use Rattle.fc_partial.proofs.singles.sum_at.Given as goal

abbrev pub invariant-loop-at : goal.invariant-loop-at
invariant-loop-at l = record {
  total : l.sum +ℤ total_of (integers_at l.values (drop l.at-index l.positions)) ≡ total_of (integers_at l.values l.positions);
  size : nat_abs l.sum + sum_by nat_abs (integers_at l.values (drop l.at-index l.positions)) ≤ total_limit;
}
