use Rattle.std.proofs.Common.{◌≡◌, ◌≤◌, ◌+◌, drop}
use Rattle.std.specs.Prelude.{◌+ℤ◌, nat_abs, sum_by}
use Rattle.fc_spec.specs.requests.Statistics.{total_of}
use Rattle.fc_spec.specs.scripts.ScriptTotals.{total_limit}
use Rattle.fc_partial.proofs.document.sum_of.Given as goal

abbrev pub invariant-loop-value : goal.invariant-loop-value
invariant-loop-value l = record {
  total : l.sum +ℤ total_of (drop l.value-index l.values) ≡ total_of l.values;
  size : nat_abs l.sum + sum_by nat_abs (drop l.value-index l.values) ≤ total_limit;
}
