use Rattle.std.proofs.Common.{◌≡◌, ◌≤◌, ◌+◌, drop}
use Rattle.std.specs.Prelude.{◌+ℤ◌, nat_abs, sum_by}
use Rattle.fc_spec.specs.requests.Statistics.{total_of}
use Rattle.fc_spec.specs.scripts.ScriptTotals.{total_limit}
use Rattle.fc_lane.specs.Masked.{masked}
use Rattle.fc_lane.proofs.masked.masked_sum.Given as goal

abbrev pub invariant-loop-word : goal.invariant-loop-word
invariant-loop-word l = record {
  total : l.sum +ℤ total_of (masked (drop l.word-index l.mask) l.rest) ≡ total_of (masked l.mask l.values);
  size : nat_abs l.sum + sum_by nat_abs l.rest ≤ total_limit;
}
