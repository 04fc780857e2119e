use Rattle.std.proofs.Common.{◌≡◌, drop}
use Rattle.fc_partial.specs.BucketView.{buckets_view, node_view, rows_view}
use Rattle.fc_request.specs.NodeView.{nodes_view}
use Rattle.fc_told.specs.Adding.{partials_added, rows_added}
use Rattle.fc_told.specs.Parts.{forks_view}
use Rattle.fc_told.specs.TreeView as tree
use Rattle.fc_told.proofs.adding.+adding.Given as goal

abbrev pub invariant-add_rows-loop-number : goal.invariant-add_rows-loop-number
invariant-add_rows-loop-number l = rows_added l.shard 0 (rows_view l.fn.rows.items) (nodes_view l.nodes) (forks_view l.fn.told.items)
    ≡ rows_added l.shard l.number (rows_view l.left.rest.items) (nodes_view (drop l.number l.nodes)) (forks_view l.told.items)

abbrev pub invariant-add_row-loop-bucket : goal.invariant-add_row-loop-bucket
invariant-add_row-loop-bucket l = partials_added l.shard (node_view l.fn.row) (nodes_view l.nodes) (tree.node_view l.fn.told)
    ≡ partials_added l.shard (buckets_view l.bucket-iterator.rest.items) (nodes_view l.nodes) (tree.node_view l.told)
