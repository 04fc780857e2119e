use Rattle.fc_request.proofs.SameNodes.{same_parts}
use Rattle.fc_request.proofs.node.Node.with_nodes.Goals as goal

pub returns : goal.returns
returns c =
    same_parts c.args.self.now c.in_ok-name.name c.in_ok-domain.domain c.in_ok-kind.kind c.args.nodes
    c.in_ok-name.ensures c.in_ok-domain.ensures c.in_ok-kind.ensures
