use Rattle.std.proofs.Common.{◌≡◌, ◌++◌, drop}
use Rattle.fc_column.proofs.KeptInOrder.{kept_entries}
use Rattle.fc_column.proofs.long_merger.add_kept.Given as goal

abbrev pub invariant-loop-place : goal.invariant-loop-place
invariant-loop-place l =
    l.ordered.items ++ kept_entries l.live l.first (drop l.place l.values) (drop l.place l.positions) ≡ l.fn.ordered.items ++ kept_entries l.live l.first l.values l.positions
