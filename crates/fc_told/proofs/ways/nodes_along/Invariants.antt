use Rattle.std.proofs.Common.{◌≡◌, drop}
use Rattle.fc_request.specs.NodeView.{nodes_view}
use Rattle.fc_refine.specs.Along.{nodes_along}
use Rattle.fc_refine.specs.AskView.{way_view}
use Rattle.fc_told.proofs.ways.nodes_along.Given as goal

abbrev pub invariant-loop-step : goal.invariant-loop-step
invariant-loop-step l = nodes_along (nodes_view l.nodes) (way_view l.way) ≡ nodes_along (nodes_view l.inside) (way_view (drop l.step-index l.way))
