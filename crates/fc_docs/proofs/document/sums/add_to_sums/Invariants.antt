use Rattle.std.proofs.Common.{◌≡◌, ℕ, ◌+◌, ◌≤◌, slice_index}
use Rattle.fc_spec.specs.scripts.ScriptTotals.{total_limit}
use Rattle.fc_docs.proofs.AbsoluteSums.{added}
use Rattle.fc_docs.proofs.document.sums.add_to_sums.Given as goal

abbrev pub invariant-loop-field : goal.invariant-loop-field
invariant-loop-field l = record {
  so_far : (n : ℕ) → slice_index l.sums n + added l.field-iterator n ≡ slice_index l.fn.sums n + added l.fn.fields n;
  within : (n : ℕ) → slice_index l.sums n ≤ total_limit;
}
