use Rattle.std.proofs.Common.{◌≡◌, ◌+◌, ◌*◌, ◌++◌, ◌≤◌, length, map}
use Rattle.fc_spec.specs.replies.Folded as definition
use Rattle.fc_reply.specs.ReplyView.{bucket_view, facet_view, facets_over, facets_view}
use Rattle.fc_request.specs.NodeView.{nodes_view}
use Rattle.fc_unique.specs.Sizes.{node_total}
use Rattle.fc_unique.proofs.folding.+folding.Given as goal

abbrev pub invariant-folded_list-loop-bucket : goal.invariant-folded_list-loop-bucket
invariant-folded_list-loop-bucket l =
    map bucket_view l.folded.items ++ map (definition.folded_bucket (nodes_view l.nodes)) (map bucket_view l.bucket-iterator.rest.items)
    ≡ map (definition.folded_bucket (nodes_view l.nodes)) (map bucket_view l.fn.list.items)

abbrev pub invariant-folded_facets-loop-facet : goal.invariant-folded_facets-loop-facet
invariant-folded_facets-loop-facet l = record {
  folded : facets_over (map facet_view l.folded.items) (definition.folded_facets l.is_empty (nodes_view l.behind) (facets_view l.left.items))
      ≡ definition.folded_facets l.is_empty (nodes_view l.nodes) (facets_view l.fn.facets.items);
  fewer : node_total (nodes_view l.behind) ≤ node_total (nodes_view l.nodes);
}

abbrev pub decreases-folded_facets-loop-facet : goal.decreases-folded_facets-loop-facet
decreases-folded_facets-loop-facet l = length l.left.items

-- each call is on fewer nodes, or on as many in the order of these
abbrev pub decreases-folded_facets : goal.decreases-folded_facets
decreases-folded_facets l = 8 * node_total (nodes_view l.nodes.now) + 1

abbrev pub decreases-folded_bucket : goal.decreases-folded_bucket
decreases-folded_bucket l = 8 * node_total (nodes_view l.nodes.now) + 2

abbrev pub decreases-folded_list : goal.decreases-folded_list
decreases-folded_list l = 8 * node_total (nodes_view l.nodes.now) + 3

abbrev pub decreases-folded_beside : goal.decreases-folded_beside
decreases-folded_beside l = 8 * node_total (nodes_view l.nodes.now) + 3

abbrev pub decreases-folded_row : goal.decreases-folded_row
decreases-folded_row l = 8 * node_total (nodes_view l.nodes.now) + 4

abbrev pub decreases-shown : goal.decreases-shown
decreases-shown l = 8 * node_total (nodes_view l.inner.now) + 5

abbrev pub decreases-folded_body : goal.decreases-folded_body
decreases-folded_body l = 8 * node_total (nodes_view l.inner.now) + 6

abbrev pub decreases-folded_facet : goal.decreases-folded_facet
decreases-folded_facet l = 8 * node_total (nodes_view l.inner.now) + 7
