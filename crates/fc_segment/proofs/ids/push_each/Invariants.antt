use Rattle.std.proofs.Common.{◌≡◌, ◌++◌, take}
use Rattle.fc_segment.proofs.ids.push_each.Given as goal

abbrev pub invariant-loop-ord : goal.invariant-loop-ord
invariant-loop-ord l = l.entries ≡ record { rows = l.fn.entries.rows; next = l.fn.entries.next ++ take l.ord-index l.ordinals }
