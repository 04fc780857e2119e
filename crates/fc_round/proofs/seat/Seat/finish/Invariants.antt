use Rattle.std.proofs.Common.{◌≡◌, map}
use Rattle.fc_kind.specs.Names.{Covers}
use Rattle.fc_round.specs.Seats.{IsSat, seat_answer, units_left}
use Rattle.fc_round.proofs.seat.Seat.finish.Given as goal

abbrev pub invariant-loop-alloc : goal.invariant-loop-alloc
invariant-loop-alloc g l = record {
  covers : Covers (map (λ b. (goal.FacetKind-dyn g (b.vtable, b.value)).name b.value) l.self.future.kinds.now);
  sat : IsSat l.self;
  answer : seat_answer l.self ≡ seat_answer l.fn.self;
}

-- the units that are left
abbrev pub decreases-loop-alloc : goal.decreases-loop-alloc
decreases-loop-alloc g l = units_left l.self
