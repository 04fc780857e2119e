use Rattle.std.proofs.Common.{map}
use Rattle.std.specs.Arc.{arc_value}
use Rattle.fc_request.specs.RequestView.{request_view}
use Rattle.fc_coord.specs.CoordView.{state_view}
use Rattle.fc_round.specs.Askable.{world_of}
use Rattle.fc_search.proofs.ResponsesHeard.{AreLeft}
use Rattle.fc_search.proofs.round.run_round.Given as goal

abbrev pub invariant-loop-response : goal.invariant-loop-response
invariant-loop-response g l = AreLeft (request_view l.request) (world_of (map arc_value l.generations)) l.behind (state_view l.fn.coord) (state_view l.coord) (g.P.Probe.lengths l.fn.probe) (g.P.Probe.lengths l.probe) l.response-iterator.rest.items
