use Rattle.std.proofs.Common.{◌≡◌, ◌+◌, take, map}
use Rattle.fc_lists.proofs.entries.Entries+u32.add_row.Given as goal

abbrev pub invariant-loop-number : goal.invariant-loop-number
invariant-loop-number l = l.self ≡ record { rows = l.fn.self.rows; next = map (λ n. n + l.more) (take l.number-index l.row) }
