use Rattle.std.proofs.Common.{take, map}
use Rattle.fc_lists.proofs.FirstEntries.{HeadsSoFar}
use Rattle.fc_lists.proofs.rows.heads.Given as goal

abbrev pub invariant-loop-place : goal.invariant-loop-place
invariant-loop-place g l = HeadsSoFar (take l.place (map (λ entry. entry.at) l.entries)) l.positions.items l.starts.items
