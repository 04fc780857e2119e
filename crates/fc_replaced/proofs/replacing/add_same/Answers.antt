use Rattle.std.proofs.Common.{◌∙◌, ap, map}
use Rattle.fc_request.specs.NodeView.{Part, node_view}
use Rattle.fc_request.proofs.Nodes.{before}
use Rattle.fc_replaced.specs.ExactParts.{nodes_over}
use Rattle.fc_replaced.proofs.NodesOver.{over_pushed}
use Rattle.fc_replaced.proofs.replacing.add_same.Goals as goal

pub returns : goal.returns
returns c = λ more.
    let done = c.args.nodes.now.items in
    over_pushed done c.push.new.self.items c.in_ok-copy.copy more c.in_ok-push.ensures.items
    ∙ ap (λ (p : Part). nodes_over (map node_view done) (before p more)) c.in_ok-copy.ensures
