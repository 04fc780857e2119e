use Rattle.std.proofs.Common.{subst, ◌<◌, length}
use Rattle.fc_round.proofs.WaitingSeats.{of_one, picked_there}
use Rattle.fc_round.proofs.driving.step.Goals as goal

pub returns-clause-turn : goal.returns-clause-turn
returns-clause-turn g c =
    let picked = picked_there c.args.seats.now c.args.places.now.items c.args.shards.now.items c.next-picked.result c.requires.places c.requires.shards (subst (λ ns. c.next-picked.result < length ns) c.deref.ensures.value c.next-picked.ensures) in
    of_one c.args.seats.now c.turn_at.new.seats c.args.places.now.items c.next-picked.result c.requires.places picked c.in_ok-turn_at.ensures.turn
