use Rattle.std.proofs.Common.{◌+◌, ◌-◌, length, map}
use Rattle.fc_lists.proofs.FilledRows.{AreAdded}
use Rattle.fc_lists.proofs.entries.Entries+u32.add_rows.Given as goal

abbrev pub invariant-loop-at : goal.invariant-loop-at
invariant-loop-at l = AreAdded l.live (map (map (λ n. n + l.more)) l.rows) l.fn.self.rows l.self l.from

abbrev pub decreases-loop-at : goal.decreases-loop-at
decreases-loop-at l = length l.live - l.from
