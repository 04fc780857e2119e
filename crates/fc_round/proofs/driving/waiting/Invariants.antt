use Rattle.std.proofs.Common.{◌≡◌, ◌++◌, drop}
use Rattle.fc_round.specs.Waiting.{told_at, untold_from, waiting_places}
use Rattle.fc_round.proofs.driving.waiting.Given as goal

-- the places so far, and those of the seats that are left
abbrev pub invariant-loop-place : goal.invariant-loop-place
invariant-loop-place g l = l.places.items ++ untold_from l.place (drop l.place (told_at l.seats)) ≡ waiting_places l.seats
