use Rattle.std.proofs.Common.{◌≤◌, ◌-◌, sym, subst}
use Rattle.fc_spec.specs.requests.Request.{Nodes}
use Rattle.fc_request.specs.NodeView.{nodes_view}
use Rattle.fc_unique.specs.Sizes.{node_total}
use Rattle.fc_unique.proofs.Sizes.{inner_total, rest_total}
use Rattle.fc_unique.proofs.own.own_facet.Goals as goal

pub returns-in-Many-clause-inner : goal.returns-in-Many-clause-inner
returns-in-Many-clause-inner c =
    let ns = nodes_view c.args.nodes.now in
    subst (λ (inner : Nodes). node_total inner ≤ node_total ns - 1) (sym c.first_printed.ensures.inner) (inner_total c.args.is_empty ns)

pub returns-in-Many-clause-behind : goal.returns-in-Many-clause-behind
returns-in-Many-clause-behind c =
    let ns = nodes_view c.args.nodes.now in
    subst (λ (behind : Nodes). node_total behind ≤ node_total ns) (sym c.first_printed.ensures.behind) (rest_total c.args.is_empty ns)
