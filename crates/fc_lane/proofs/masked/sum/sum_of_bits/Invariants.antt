use Rattle.std.proofs.Common.{◌≡◌, ◌≤◌, ◌<◌, ◌^◌, ◌+◌, [], ◌∷◌, length}
use Rattle.std.specs.Prelude.{◌+ℤ◌, nat_abs, sum_by}
use Rattle.fc_spec.specs.requests.Statistics.{total_of}
use Rattle.fc_spec.specs.scripts.ScriptTotals.{total_limit}
use Rattle.fc_lane.specs.Masked.{masked}
use Rattle.fc_lane.proofs.masked.sum.sum_of_bits.Given as goal

abbrev pub invariant-loop-left : goal.invariant-loop-left
invariant-loop-left l = record {
  total : l.sum +ℤ total_of (masked (l.left ∷ []) l.part) ≡ total_of (masked (l.word ∷ []) l.part);
  size : nat_abs l.sum + sum_by nat_abs (masked (l.left ∷ []) l.part) ≤ total_limit;
  within : l.left < 2 ^ length l.part;
}

abbrev pub decreases-loop-left : goal.decreases-loop-left
decreases-loop-left l = l.left
