use Rattle.std.proofs.Common.{◌≡◌, drop, map}
use Rattle.fc_spec.specs.replies.Restored.{restored_facets}
use Rattle.fc_request.specs.NodeView.{nodes_view}
use Rattle.fc_reply.specs.ReplyView.{facet_view, facets_over, facets_view}
use Rattle.fc_replaced.specs.TopsView.{tops_view}
use Rattle.fc_replaced.proofs.restoring.restored_facets.Given as goal

abbrev pub invariant-loop-node : goal.invariant-loop-node
invariant-loop-node l =
    facets_over (map facet_view l.made.items) (restored_facets (nodes_view (drop l.node-index l.nodes)) (tops_view l.lists) l.is_empty (facets_view l.left.items))
    ≡ restored_facets (nodes_view l.nodes) (tops_view l.tops) l.is_empty (facets_view l.fn.facets.items)
