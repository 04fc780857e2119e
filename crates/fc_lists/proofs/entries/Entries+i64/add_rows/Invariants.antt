use Rattle.std.proofs.Common.{◌-◌, length}
use Rattle.fc_lists.proofs.FilledRows.{AreAdded}
use Rattle.fc_lists.proofs.entries.Entries+i64.add_rows.Given as goal

abbrev pub invariant-loop-at : goal.invariant-loop-at
invariant-loop-at l = AreAdded l.live l.rows l.fn.self.rows l.self l.from

abbrev pub decreases-loop-at : goal.decreases-loop-at
decreases-loop-at l = length l.live - l.from
