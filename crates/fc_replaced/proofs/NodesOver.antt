-- Nodes before others.
use Rattle.std.proofs.Common.{◌≡◌, List, [], ◌∷◌, ◌++◌, map, refl, ap, ◌∙◌}
use Rattle.std.proofs.lemmas.List.{map-append}
use Rattle.fc_spec.specs.requests.Request.{Nodes, no_nodes}
use Rattle.fc_request.specs.declared.node.Node.{Node}
use Rattle.fc_request.specs.NodeView.{Part, linked, node_view, nodes_view}
use Rattle.fc_request.proofs.Nodes.{before}
use Rattle.fc_replaced.specs.ExactParts.{nodes_over}

nodes_over-none : (ps : List Part) → nodes_over ps no_nodes ≡ linked ps
nodes_over-none [] = refl
nodes_over-none (p ∷ ps) = ap (before p) (nodes_over-none ps)

pub over_none : (ns : List Node) → nodes_over (map node_view ns) no_nodes ≡ nodes_view ns
over_none ns = nodes_over-none (map node_view ns)

nodes_over-append : (ps : List Part) (p : Part) (more : Nodes) → nodes_over (ps ++ p ∷ []) more ≡ nodes_over ps (before p more)
nodes_over-append [] p more = refl
nodes_over-append (q ∷ qs) p more = ap (before q) (nodes_over-append qs p more)

-- one more at the end
pub over_pushed : (done made : List Node) (n : Node) (more : Nodes) → made ≡ done ++ n ∷ [] → nodes_over (map node_view made) more ≡ nodes_over (map node_view done) (before (node_view n) more)
over_pushed done made n more h =
    ap (λ ns. nodes_over (map node_view ns) more) h ∙ ap (λ ps. nodes_over ps more) (map-append node_view done (n ∷ []))
    ∙ nodes_over-append (map node_view done) (node_view n) more
