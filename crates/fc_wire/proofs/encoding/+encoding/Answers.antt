use Rattle.std.proofs.Common.{◌≡◌, ◌+◌, ◌<◌, ◌^◌, ◌++◌, drop, sym, ◌∙◌, ap, subst}
use Rattle.fc_spec.specs.messages.MessageBytes.{long_bytes, key_bytes, stats_bytes, partial_count, row_count, partials_bytes, rows_bytes}
use Rattle.fc_partial.specs.BucketView.{buckets_view, rows_view}
use Rattle.fc_partial.specs.StatsView.{stats_view}
use Rattle.fc_partial.specs.View.{key_view}
use Rattle.fc_partial.specs.declared.bucket.PartialBucket.{out-PartialBucket}
use Rattle.fc_partial.specs.declared.bucket.PartialNode.{out-PartialNode}
use Rattle.fc_wire.specs.Fitting.{BucketsFit, NodesFit}
use Rattle.fc_wire.proofs.Written.{two_pieces, four_pieces, buckets_from, nodes_from, buckets_count, nodes_count}
use Rattle.fc_wire.proofs.encoding.+encoding.Goals as goal

pub put_buckets-loop-bucket-preserved : goal.put_buckets-loop-bucket-preserved
put_buckets-loop-bucket-preserved t c =
    let i = c.loop-bucket.bucket-index in
    let b = out-PartialBucket c.bucket-item.result in
    let rest = buckets_view (drop (i + 1) c.args.buckets.now) in
    let from = buckets_from c.args.buckets.now i c.bucket-item.result c.loop-bucket-test.true c.bucket-item.is in
    let count : c.len.result ≡ row_count (rows_view b.nodes.items) = c.len.ensures ∙ b.nodes.ok.0 ∙ sym (nodes_count b.nodes.items) in
    let below : row_count (rows_view b.nodes.items) < 2 ^ 64 = subst (λ n. n < 2 ^ 64) count c.in_ok-put_length.ensures.fits in
    let number : c.put_length.new.out.items ≡ c.put_stats.new.out.items ++ long_bytes (row_count (rows_view b.nodes.items)) = c.in_ok-put_length.ensures.bytes ∙ ap (λ n. c.put_stats.new.out.items ++ long_bytes n) count in
    let nodes : c.put_nodes.new.out.items ≡ c.put_length.new.out.items ++ rows_bytes (rows_view b.nodes.items) = c.in_ok-put_nodes.ensures.bytes ∙ ap (λ ns. c.put_length.new.out.items ++ rows_bytes (rows_view ns)) c.deref.ensures.value in
    let inside = subst (λ ns. NodesFit (rows_view ns)) c.deref.ensures.value c.in_ok-put_nodes.ensures.fit in
    record {
      bytes =
          four_pieces c.loop-bucket.out.items c.put_key.new.out.items c.put_stats.new.out.items c.put_length.new.out.items c.put_nodes.new.out.items
          (key_bytes (key_view b.key)) (stats_bytes (stats_view b.stats)) (long_bytes (row_count (rows_view b.nodes.items))) (rows_bytes (rows_view b.nodes.items)) (partials_bytes rest)
          (c.in_ok-put_key.ensures.bytes) (c.in_ok-put_stats.ensures.bytes) number nodes
          ∙ ap (λ ps. c.loop-bucket.out.items ++ partials_bytes ps) (sym from) ∙ c.loop-bucket.invariant.bytes;
      fit = λ f. c.loop-bucket.invariant.fit (subst BucketsFit (sym from) (
        (c.in_ok-put_key.ensures.fits.0, c.in_ok-put_stats.ensures.fit, below, inside.0, f.0),
        (c.in_ok-put_key.ensures.fits.1, inside.1, f.1),
      ));
    }

pub put_nodes-loop-node-preserved : goal.put_nodes-loop-node-preserved
put_nodes-loop-node-preserved t c =
    let i = c.loop-node.node-index in
    let n = out-PartialNode c.node-item.result in
    let rest = rows_view (drop (i + 1) c.args.nodes.now) in
    let from = nodes_from c.args.nodes.now i c.node-item.result c.loop-node-test.true c.node-item.is in
    let count : c.len.result ≡ partial_count (buckets_view n.buckets.items) = c.len.ensures ∙ n.buckets.ok.0 ∙ sym (buckets_count n.buckets.items) in
    let number : c.put_length.new.out.items ≡ c.loop-node.out.items ++ long_bytes (partial_count (buckets_view n.buckets.items)) = c.in_ok-put_length.ensures.bytes ∙ ap (λ k. c.loop-node.out.items ++ long_bytes k) count in
    let buckets : c.put_buckets.new.out.items ≡ c.put_length.new.out.items ++ partials_bytes (buckets_view n.buckets.items) = c.in_ok-put_buckets.ensures.bytes ∙ ap (λ bs. c.put_length.new.out.items ++ partials_bytes (buckets_view bs)) c.deref.ensures.value in
    let below : partial_count (buckets_view n.buckets.items) < 2 ^ 64 = subst (λ k. k < 2 ^ 64) count c.in_ok-put_length.ensures.fits in
    let inside = subst (λ bs. BucketsFit (buckets_view bs)) c.deref.ensures.value c.in_ok-put_buckets.ensures.fit in
    record {
      bytes =
          two_pieces c.loop-node.out.items c.put_length.new.out.items c.put_buckets.new.out.items (long_bytes (partial_count (buckets_view n.buckets.items))) (partials_bytes (buckets_view n.buckets.items)) (rows_bytes rest) number buckets
          ∙ ap (λ rows. c.loop-node.out.items ++ rows_bytes rows) (sym from) ∙ c.loop-node.invariant.bytes;
      fit = λ f. c.loop-node.invariant.fit (subst NodesFit (sym from) ((below, inside.0, f.0), (inside.1, f.1)));
    }
