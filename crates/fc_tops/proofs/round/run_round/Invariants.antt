use Rattle.std.proofs.Common.{map}
use Rattle.std.specs.Arc.{arc_value}
use Rattle.fc_request.specs.RequestView.{request_view}
use Rattle.fc_exact.specs.CoreView.{state_view}
use Rattle.fc_round.specs.Askable.{world_of}
use Rattle.fc_tops.proofs.ResponsesHeard.{AreLeft}
use Rattle.fc_tops.proofs.round.run_round.Given as goal

abbrev pub invariant-loop-response : goal.invariant-loop-response
invariant-loop-response g l = AreLeft (request_view l.request) (world_of (map arc_value l.generations)) (state_view l.fn.core) (state_view l.core) (g.P.Probe.lengths l.fn.probe) (g.P.Probe.lengths l.probe) l.response-iterator.rest.items
