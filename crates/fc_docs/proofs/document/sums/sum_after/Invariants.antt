use Rattle.std.proofs.Common.{◌≡◌, ◌+◌, ◌≤◌, take}
use Rattle.std.specs.List.{sum_by}
use Rattle.fc_spec.specs.scripts.ScriptTotals.{total_limit}
use Rattle.fc_base.specs.View.{val_view}
use Rattle.fc_docs.specs.Sums.{absolute_value}
use Rattle.fc_docs.proofs.document.sums.sum_after.Given as goal

abbrev pub invariant-loop-value : goal.invariant-loop-value
invariant-loop-value l = record {
  so_far : l.total ≡ l.sum + sum_by (λ v. absolute_value (val_view v)) (take l.value-index l.values);
  within : l.total ≤ total_limit;
}
