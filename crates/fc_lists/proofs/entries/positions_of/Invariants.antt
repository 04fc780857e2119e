use Rattle.std.proofs.Common.{◌≡◌, map, take}
use Rattle.fc_lists.proofs.entries.positions_of.Given as goal

abbrev pub invariant-loop-entry : goal.invariant-loop-entry
invariant-loop-entry g l = l.positions.items ≡ map (λ entry. entry.at) (take l.entry-index l.entries)
