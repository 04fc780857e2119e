use Rattle.std.proofs.Common.{Some, refl}
use Rattle.fc_phase.specs.Futures.{phase_of}
use Rattle.fc_round.proofs.SeatTurns.{done_nests, finished_over, on_err, turned_on, turned_over}
use Rattle.fc_round.proofs.seat.Seat.turn.Goals as goal

pub returns-in-Pending-clause-turned : goal.returns-in-Pending-clause-turned
returns-in-Pending-clause-turned g c = turned_on c.args.self.now (record c.args.self.now { future = c.turn.new.self }) c.in_ok-turn.turn c.in-Pending.is refl refl c.requires.waits c.requires.fresh c.requires.nests c.in_ok-turn.ensures.turned

pub encode-requires : goal.encode-requires
encode-requires g c = done_nests (phase_of c.args.self.now.future) (phase_of c.turn.new.self) c.in_ok-turn.turn c.in-Done.message c.in-Done.is c.in_ok-turn.ensures.turned c.requires.nests

pub returns-in_ok-bytes-in-Done-clause-turned : goal.returns-in_ok-bytes-in-Done-clause-turned
returns-in_ok-bytes-in-Done-clause-turned g c =
    turned_over c.args.self.now (record c.args.self.now { future = c.turn.new.self; bytes = Some c.in_ok-bytes-in-Done.bytes }) c.in_ok-turn.turn c.in-Done.message c.in_ok-bytes-in-Done.bytes c.in-Done.is refl refl c.in_ok-bytes-in-Done.ensures c.requires.nests c.in_ok-turn.ensures.turned

pub returns-in_err-bytes-in-Done-clause-over : goal.returns-in_err-bytes-in-Done-clause-over
returns-in_err-bytes-in-Done-clause-over g c =
    on_err c.from_residual-in_err-bytes-in-Done.result
    (finished_over c.args.self.now (record c.args.self.now { future = c.turn.new.self }) c.in_ok-turn.turn c.in-Done.message c.in-Done.is refl refl c.requires.waits c.in_ok-turn.ensures.turned)
