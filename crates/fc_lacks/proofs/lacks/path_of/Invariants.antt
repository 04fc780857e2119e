use Rattle.std.proofs.Common.{◌≡◌, ◌++◌, drop}
use Rattle.fc_lacks.proofs.lacks.path_of.Given as goal

abbrev pub invariant-loop-step : goal.invariant-loop-step
invariant-loop-step l = l.steps.items ++ drop l.step-index l.way ≡ l.way
