use Rattle.std.proofs.Common.{◌<◌, length, sym, ◌∙◌, arith}
use Rattle.fc_round.proofs.WaitingSeats.{is_turn, picked_there, picked_waits, places_same, places_without, shards_same, shards_without}
use Rattle.fc_round.proofs.driving.turn_at.Goals as goal

pub offset_bounds-seats-place : goal.offset_bounds-seats-place
offset_bounds-seats-place g c =
    let picked = picked_there c.args.seats.now c.args.places.now.items c.args.shards.now.items c.args.picked c.requires.places c.requires.shards c.requires.there in
    let below : c.index-place.result.now < length c.args.seats.now = (picked_waits c.args.seats.now c.args.places.now.items c.args.picked c.index-place.result.now c.requires.places picked c.index-place.ensures).there in
    omega (arith, below)

pub bounds-seats-place : goal.bounds-seats-place
bounds-seats-place g c =
    let picked = picked_there c.args.seats.now c.args.places.now.items c.args.shards.now.items c.args.picked c.requires.places c.requires.shards c.requires.there in
    (picked_waits c.args.seats.now c.args.places.now.items c.args.picked c.index-place.result.now c.requires.places picked c.index-place.ensures).there

pub turn-requires-clause-covers : goal.turn-requires-clause-covers
turn-requires-clause-covers g c =
    let picked = picked_there c.args.seats.now c.args.places.now.items c.args.shards.now.items c.args.picked c.requires.places c.requires.shards c.requires.there in
    c.requires.covers c.index-place.result.now c.index-seats-place.result (picked_waits c.args.seats.now c.args.places.now.items c.args.picked c.index-place.result.now c.requires.places picked c.index-place.ensures).there

pub turn-requires-clause-waits : goal.turn-requires-clause-waits
turn-requires-clause-waits g c =
    let picked = picked_there c.args.seats.now c.args.places.now.items c.args.shards.now.items c.args.picked c.requires.places c.requires.shards c.requires.there in
    (picked_waits c.args.seats.now c.args.places.now.items c.args.picked c.index-place.result.now c.requires.places picked c.index-place.ensures).waits c.index-seats-place.result

pub turn-requires-clause-fresh : goal.turn-requires-clause-fresh
turn-requires-clause-fresh g c =
    let picked = picked_there c.args.seats.now c.args.places.now.items c.args.shards.now.items c.args.picked c.requires.places c.requires.shards c.requires.there in
    let own = picked_waits c.args.seats.now c.args.places.now.items c.args.picked c.index-place.result.now c.requires.places picked c.index-place.ensures in
    (c.requires.sat c.index-place.result.now c.index-seats-place.result own.there).waits (own.waits c.index-seats-place.result)

pub turn-requires-clause-nests : goal.turn-requires-clause-nests
turn-requires-clause-nests g c =
    let picked = picked_there c.args.seats.now c.args.places.now.items c.args.shards.now.items c.args.picked c.requires.places c.requires.shards c.requires.there in
    let own = picked_waits c.args.seats.now c.args.places.now.items c.args.picked c.index-place.result.now c.requires.places picked c.index-place.ensures in
    (c.requires.sat c.index-place.result.now c.index-seats-place.result own.there).nests

pub returns-then-not-branch-clause-turn : goal.returns-then-not-branch-clause-turn
returns-then-not-branch-clause-turn g c =
    let picked = picked_there c.args.seats.now c.args.places.now.items c.args.shards.now.items c.args.picked c.requires.places c.requires.shards c.requires.there in
    is_turn c.args.seats.now c.args.places.now.items c.args.shards.now.items c.args.picked c.index-place.result.now c.index-seats-place.result c.turn.new.self c.requires.places c.requires.shards picked c.index-place.ensures c.in_ok-turn.ensures.turned

pub returns-then-not-branch-clause-places : goal.returns-then-not-branch-clause-places
returns-then-not-branch-clause-places g c =
    let picked = picked_there c.args.seats.now c.args.places.now.items c.args.shards.now.items c.args.picked c.requires.places c.requires.shards c.requires.there in
    places_same c.args.seats.now c.args.places.now.items c.args.shards.now.items c.args.picked c.index-place.result.now c.index-seats-place.result c.turn.new.self c.requires.places c.requires.shards picked c.index-place.ensures c.in_ok-turn.ensures.turned
    (sym c.in_ok-turn.ensures.told ∙ c.if-not-branch.true)

pub returns-then-not-branch-clause-shards : goal.returns-then-not-branch-clause-shards
returns-then-not-branch-clause-shards g c =
    let picked = picked_there c.args.seats.now c.args.places.now.items c.args.shards.now.items c.args.picked c.requires.places c.requires.shards c.requires.there in
    shards_same c.args.seats.now c.args.places.now.items c.args.shards.now.items c.args.picked c.index-place.result.now c.index-seats-place.result c.turn.new.self c.requires.places c.requires.shards picked c.index-place.ensures c.in_ok-turn.ensures.turned
    (sym c.in_ok-turn.ensures.told ∙ c.if-not-branch.true)

pub returns-clause-turn : goal.returns-clause-turn
returns-clause-turn g c =
    let picked = picked_there c.args.seats.now c.args.places.now.items c.args.shards.now.items c.args.picked c.requires.places c.requires.shards c.requires.there in
    is_turn c.args.seats.now c.args.places.now.items c.args.shards.now.items c.args.picked c.index-place.result.now c.index-seats-place.result c.turn.new.self c.requires.places c.requires.shards picked c.index-place.ensures c.in_ok-turn.ensures.turned

pub returns-clause-places : goal.returns-clause-places
returns-clause-places g c =
    let picked = picked_there c.args.seats.now c.args.places.now.items c.args.shards.now.items c.args.picked c.requires.places c.requires.shards c.requires.there in
    c.remove.ensures.items ∙ places_without c.args.seats.now c.args.places.now.items c.args.shards.now.items c.args.picked c.index-place.result.now c.index-seats-place.result c.turn.new.self c.requires.places c.requires.shards picked c.index-place.ensures c.in_ok-turn.ensures.turned
    (sym c.in_ok-turn.ensures.told ∙ c.if-not-branch.false)

pub returns-clause-shards : goal.returns-clause-shards
returns-clause-shards g c =
    let picked = picked_there c.args.seats.now c.args.places.now.items c.args.shards.now.items c.args.picked c.requires.places c.requires.shards c.requires.there in
    c.remove-2.ensures.items ∙ shards_without c.args.seats.now c.args.places.now.items c.args.shards.now.items c.args.picked c.index-place.result.now c.index-seats-place.result c.turn.new.self c.requires.places c.requires.shards picked c.index-place.ensures c.in_ok-turn.ensures.turned
    (sym c.in_ok-turn.ensures.told ∙ c.if-not-branch.false)
