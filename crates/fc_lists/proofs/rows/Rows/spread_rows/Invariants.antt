use Rattle.std.proofs.Common.{◌-◌, length}
use Rattle.fc_lists.proofs.SpreadBits.{AreSpread}
use Rattle.fc_lists.proofs.rows.Rows.spread_rows.Given as goal

abbrev pub invariant-loop-at : goal.invariant-loop-at
invariant-loop-at g l = AreSpread l.docs l.self l.into l.from

abbrev pub decreases-loop-at : goal.decreases-loop-at
decreases-loop-at g l = length l.self - l.from
