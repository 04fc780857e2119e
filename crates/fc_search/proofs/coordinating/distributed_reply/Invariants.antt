use Rattle.std.proofs.Common.{map}
use Rattle.std.specs.Arc.{arc_value}
use Rattle.fc_request.specs.RequestView.{request_view}
use Rattle.fc_coord.specs.CoordView.{state_view}
use Rattle.fc_round.specs.Askable.{world_of}
use Rattle.fc_search.specs.Hearing.{IsTraced, rounds_left}
use Rattle.fc_search.proofs.coordinating.distributed_reply.Given as goal

-- what was told so far is what the probe was told
abbrev pub invariant-loop-alloc : goal.invariant-loop-alloc
invariant-loop-alloc g l = IsTraced (request_view l.request) (world_of (map arc_value l.generations)) l.behind (state_view l.coord) (g.P.Probe.lengths l.fn.probe) (g.P.Probe.lengths l.probe)

abbrev pub decreases-loop-alloc : goal.decreases-loop-alloc
decreases-loop-alloc g l = rounds_left (state_view l.coord)
