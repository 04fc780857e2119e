use Rattle.std.proofs.Common.{◌≡◌, take}
use Rattle.fc_lists.proofs.entries.Entries+i64.add_row.Given as goal

abbrev pub invariant-loop-value : goal.invariant-loop-value
invariant-loop-value l = l.self ≡ record { rows = l.fn.self.rows; next = take l.value-index l.row }
