use Rattle.std.proofs.Common.{◌∙◌, ap, map}
use Rattle.fc_query.specs.QueryView.{query_view}
use Rattle.fc_request.specs.NodeView.{node_view}
use Rattle.fc_replaced.specs.ExactParts.{nodes_over}
use Rattle.fc_replaced.proofs.NodesOver.{over_pushed}
use Rattle.fc_replaced.proofs.ReplacedNodes.{query_before}
use Rattle.fc_replaced.proofs.replacing.add_query.Goals as goal

pub returns : goal.returns
returns c = λ more.
    let done = c.args.nodes.now.items in
    let facet = c.in_ok-facet.facet in
    over_pushed done c.push.new.self.items facet more c.in_ok-push.ensures.items
    ∙ ap (nodes_over (map node_view done)) (query_before c.args.node.now (query_view c.args.query) (node_view facet) more c.in_ok-facet.ensures)
