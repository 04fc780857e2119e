use Rattle.std.proofs.Common.{sym, ◌∙◌}
use Rattle.fc_round.specs.Waiting.{waiting_places}
use Rattle.fc_round.proofs.WaitingSeats.{place_found, place_passed}
use Rattle.fc_round.proofs.driving.waiting.Goals as goal

pub loop-place-preserved-then-is_some : goal.loop-place-preserved-then-is_some
loop-place-preserved-then-is_some g c =
    place_passed c.args.seats.now c.loop-place.place c.index-seats-place.result c.loop-place.places.items (waiting_places c.args.seats.now) c.loop-place-test.true c.index-seats-place.is (sym c.is_some.ensures ∙ c.if-is_some.true) c.loop-place.invariant

pub loop-place-preserved : goal.loop-place-preserved
loop-place-preserved g c =
    rw c.in_ok-push.ensures.items (place_found c.args.seats.now c.loop-place.place c.index-seats-place.result c.loop-place.places.items (waiting_places c.args.seats.now) c.loop-place-test.true c.index-seats-place.is (sym c.is_some.ensures ∙ c.if-is_some.false) c.loop-place.invariant)
