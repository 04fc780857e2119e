use Rattle.std.proofs.Common.{◌≡◌, All, map, sum_by}
use Rattle.fc_kind.specs.Names.{Covers}
use Rattle.fc_round.specs.Seats.{IsSat, seat_answer, units_left}
use Rattle.fc_round.specs.Waiting.{waiting_places, waiting_shards}
use Rattle.fc_round.proofs.driving.drive.Given as goal

abbrev pub invariant-loop-alloc : goal.invariant-loop-alloc
invariant-loop-alloc g l = record {
  covers : All (λ seat. Covers (map (λ b. (goal.FacetKind-dyn g (b.vtable, b.value)).name b.value) seat.future.kinds.now)) l.seats;
  sat : All IsSat l.seats;
  answers : map seat_answer l.seats ≡ map seat_answer l.fn.seats;
  places : l.places.items ≡ waiting_places l.seats;
  shards : l.shards.items ≡ waiting_shards l.seats;
}

-- the units that are left
abbrev pub decreases-loop-alloc : goal.decreases-loop-alloc
decreases-loop-alloc g l = sum_by units_left l.seats
