use Rattle.std.proofs.Common.{◌≡◌, drop}
use Rattle.std.specs.Prelude.{option_map}
use Rattle.fc_partial.specs.BucketView.{buckets_view, node_view, rows_view}
use Rattle.fc_request.specs.NodeView.{nodes_view}
use Rattle.fc_told.specs.Fitting as fitting
use Rattle.fc_told.specs.TreeView.{tree_there}
use Rattle.fc_told.proofs.fitting.+fits.Given as goal

abbrev pub invariant-rows_fit-loop-number : goal.invariant-rows_fit-loop-number
invariant-rows_fit-loop-number l = fitting.rows_fit (tree_there (option_map (λ bucket. bucket.now) l.told)) 0 (rows_view l.rows) (nodes_view l.nodes)
    ≡ fitting.rows_fit (tree_there (option_map (λ bucket. bucket.now) l.told)) l.number (rows_view l.left) (nodes_view (drop l.number l.nodes))

abbrev pub invariant-row_fits-loop-bucket : goal.invariant-row_fits-loop-bucket
invariant-row_fits-loop-bucket l = fitting.partials_fit (tree_there (option_map (λ bucket. bucket.now) l.told)) l.number (node_view l.row) (nodes_view l.nodes)
    ≡ fitting.partials_fit (tree_there (option_map (λ bucket. bucket.now) l.told)) l.number (buckets_view (drop l.bucket-index l.bucket-items)) (nodes_view l.nodes)
