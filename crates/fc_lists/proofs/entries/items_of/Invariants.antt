use Rattle.std.proofs.Common.{◌≡◌, map, take}
use Rattle.fc_lists.proofs.entries.items_of.Given as goal

abbrev pub invariant-loop-entry : goal.invariant-loop-entry
invariant-loop-entry g l = l.items.items ≡ map (λ entry. entry.item) (take l.entry-index l.entries)
