use Rattle.std.proofs.Common.{ap, sym, ◌∙◌}
use Rattle.std.specs.Arc.{arc_value}
use Rattle.fc_request.specs.NodeView.{nodes_view}
use Rattle.fc_refine.specs.Along.{nodes_in, nodes_along}
use Rattle.fc_refine.specs.AskView.{way_view}
use Rattle.fc_refine.proofs.Shapes.{along_more}
use Rattle.fc_refine.proofs.ways.wanted_nodes.Goals as goal

pub returns : goal.returns
returns c =
    c.nodes_in.ensures ∙ ap (nodes_in c.args.want.now.node) (c.nodes_along-around.ensures ∙ ap (λ ss. nodes_along (nodes_view c.args.nodes.now) (way_view ss)) c.way.ensures)
    ∙ sym (along_more (way_view (arc_value c.args.want.now.path).items) _ (nodes_view c.args.nodes.now))
