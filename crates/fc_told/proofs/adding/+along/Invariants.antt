use Rattle.std.proofs.Common.{◌+◌, length}
use Rattle.fc_told.specs.Steps.{steps_view}
use Rattle.fc_told.proofs.adding.+along.Given as goal

abbrev pub decreases-add_along : goal.decreases-add_along
decreases-add_along l = length (steps_view l.left) + length (steps_view l.left)

abbrev pub decreases-add_below : goal.decreases-add_below
decreases-add_below l = length (steps_view l.left) + length (steps_view l.left) + 1
