use Rattle.std.proofs.Common.{◌≡◌, ◌+◌, ◌≤◌, ℕ, get_or, take}
use Rattle.std.specs.Prelude.{All}
use Rattle.fc_spec.specs.scripts.ScriptTotals.{absolute_total, total_limit}
use Rattle.fc_script.proofs.counts.documents.add_to_sums.Given as goal

abbrev pub invariant-loop-child : goal.invariant-loop-child
invariant-loop-child l = record {
  sums : (field : ℕ) → get_or l.sums field 0 ≡ get_or l.initial.sums field 0 + absolute_total (take l.child-index l.child-items) field;
  within : All (λ sum. sum ≤ total_limit) l.sums;
}
