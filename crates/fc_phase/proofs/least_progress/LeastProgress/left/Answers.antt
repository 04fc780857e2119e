use Rattle.std.proofs.Common.{ap, ◌∙◌}
use Rattle.fc_phase.specs.Phases.{left_of}
use Rattle.fc_phase.proofs.LeastTurns.{left_is}
use Rattle.fc_phase.proofs.least_progress.LeastProgress.left.Goals as goal

pub returns : goal.returns
returns c = left_is c.self.inside c.self.invariant ∙ ap left_of c.self.view_is
