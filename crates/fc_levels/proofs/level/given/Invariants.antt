use Rattle.std.proofs.Common.{vec_len}
use Rattle.fc_levels.proofs.Closing.{Comes}
use Rattle.fc_levels.proofs.level.given.Given as goal

abbrev pub invariant-loop-level : goal.invariant-loop-level
invariant-loop-level l = Comes l.initial.levels.items l.initial.domain.items l.initial.row l.levels.items l.domain.items l.row

abbrev pub decreases-loop-level : goal.decreases-loop-level
decreases-loop-level l = vec_len l.levels
