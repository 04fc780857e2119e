use Rattle.std.proofs.Common.{◌≤◌, length}
use Rattle.fc_io.specs.WriteEnd.{AppendsUpTo}
use Rattle.fc_io.proofs.writing.write_all.Given as goal

abbrev pub invariant-loop-rest : goal.invariant-loop-rest
invariant-loop-rest g l =
    AppendsUpTo (g.K.Sink.written l.initial.sink) (g.K.Sink.written l.sink) l.bytes l.rest
    × (g.K.Sink.faults l.initial.sink ≤ g.K.Sink.faults l.sink)

abbrev pub decreases-loop-rest : goal.decreases-loop-rest
decreases-loop-rest g l = length l.rest
