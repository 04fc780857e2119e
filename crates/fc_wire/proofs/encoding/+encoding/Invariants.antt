use Rattle.std.proofs.Common.{◌≡◌, ◌++◌, drop}
use Rattle.fc_spec.specs.messages.MessageBytes.{partials_bytes, rows_bytes}
use Rattle.fc_partial.specs.BucketView.{buckets_view, rows_view}
use Rattle.fc_wire.specs.Fitting.{BucketsFit, NodesFit}
use Rattle.fc_wire.proofs.encoding.+encoding.Given as goal

-- with the buckets that are left they are all written, and so with nodes
abbrev pub invariant-put_buckets-loop-bucket : goal.invariant-put_buckets-loop-bucket
invariant-put_buckets-loop-bucket l = record {
  bytes : l.out.items ++ partials_bytes (buckets_view (drop l.bucket-index l.buckets)) ≡ l.fn.out.items ++ partials_bytes (buckets_view l.buckets);
  fit : BucketsFit (buckets_view (drop l.bucket-index l.buckets)) → BucketsFit (buckets_view l.buckets);
}

abbrev pub invariant-put_nodes-loop-node : goal.invariant-put_nodes-loop-node
invariant-put_nodes-loop-node l = record {
  bytes : l.out.items ++ rows_bytes (rows_view (drop l.node-index l.nodes)) ≡ l.fn.out.items ++ rows_bytes (rows_view l.nodes);
  fit : NodesFit (rows_view (drop l.node-index l.nodes)) → NodesFit (rows_view l.nodes);
}
