use Rattle.std.proofs.Common.{◌≡◌, length, ◌∙◌, ap, arith}
use Rattle.std.proofs.lemmas.Bool.Decides.{nat_tests}
use Rattle.fc_round.specs.Waiting.{waiting_places}
use Rattle.fc_round.proofs.SeatLists.{all_told}
use Rattle.fc_round.proofs.WaitingSeats.{answers_still, each_there, none_waits, sat_still, units_fewer}
use Rattle.fc_round.proofs.driving.drive.Goals as goal

pub shards_at-requires : goal.shards_at-requires
shards_at-requires g c = each_there c.args.seats.now c.deref.result.now (c.deref.ensures.value ∙ c.in_ok-places.ensures)

pub loop-alloc-preserved : goal.loop-alloc-preserved
loop-alloc-preserved g c =
    let was = c.loop-alloc.invariant in
    let step = c.in_ok-step.ensures in
    record {
      covers = step.covers;
      sat = sat_still c.loop-alloc.seats c.step.new.seats step.turn was.sat;
      answers = answers_still c.loop-alloc.seats c.step.new.seats step.turn c.args.seats.now was.answers;
      places = step.places;
      shards = step.shards;
    }

pub loop-alloc-smaller : goal.loop-alloc-smaller
loop-alloc-smaller g c = units_fewer c.loop-alloc.seats c.step.new.seats c.in_ok-step.ensures.turn

pub returns-clause-told : goal.returns-clause-told
returns-clause-told g c =
    let was = c.loop-alloc.invariant in
    let none : length (waiting_places c.loop-alloc.seats) ≡ 0 = (let same = ap length was.places in grind (arith, nat_tests, same)) in
    all_told c.loop-alloc.seats was.sat (none_waits c.loop-alloc.seats none)
