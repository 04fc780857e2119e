use Rattle.std.proofs.Common.{◌≡◌, ◌∙◌, ◌+◌, ◌∷◌, ap, drop, sym}
use Rattle.fc_spec.specs.requests.Shape.{no_exact}
use Rattle.fc_request.specs.NodeView.{node_view, nodes_view}
use Rattle.fc_replaced.proofs.OnlyExact.{first_exact, first_plain}
use Rattle.fc_replaced.proofs.Steps.{left_first}
use Rattle.fc_replaced.proofs.request.is_one_exact.Goals as goal

pub returns-then-is_exact : goal.returns-then-is_exact
returns-then-is_exact c =
    let xs = c.args.nodes.now in
    let i = c.loop-node.node-index in
    let item = c.node-item.result in
    let here : drop i xs ≡ item ∷ drop (i + 1) xs = left_first xs i item c.loop-node-test.true c.node-item.is in
    first_exact (node_view item) (nodes_view (drop (i + 1) xs)) (no_exact (nodes_view xs)) (sym c.is_exact.ensures ∙ c.if-is_exact.true)
    (ap (λ ns. no_exact (nodes_view ns)) (sym here) ∙ c.loop-node.invariant)

pub loop-node-preserved : goal.loop-node-preserved
loop-node-preserved c =
    let xs = c.args.nodes.now in
    let i = c.loop-node.node-index in
    let item = c.node-item.result in
    let here : drop i xs ≡ item ∷ drop (i + 1) xs = left_first xs i item c.loop-node-test.true c.node-item.is in
    sym (first_plain (node_view item) (nodes_view (drop (i + 1) xs)) (sym c.is_exact.ensures ∙ c.if-is_exact.false))
    ∙ ap (λ ns. no_exact (nodes_view ns)) (sym here) ∙ c.loop-node.invariant
