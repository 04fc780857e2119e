use Rattle.std.proofs.Common.{take}
use Rattle.fc_range.proofs.Selected.{HasPicked}
use Rattle.fc_date_range.proofs.selecting.pick.Given as goal

abbrev pub invariant-loop-at : goal.invariant-loop-at
invariant-loop-at l = HasPicked l.docs (take l.at-index l.positions) l.into
