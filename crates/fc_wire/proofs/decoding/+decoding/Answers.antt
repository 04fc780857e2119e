use Rattle.std.proofs.Common.{◌≡◌, ℕ, List, ◌++◌, ◌∷◌, [], map, Bor, Vec, Global}
use Rattle.std.proofs.lemmas.Result.{err_from_is_err_and}
use Rattle.std.proofs.lemmas.List.{map_push}
use Rattle.fc_partial.specs.declared.bucket.PartialBucket.{PartialBucket}
use Rattle.fc_partial.specs.declared.bucket.PartialNode.{PartialNode}
use Rattle.fc_partial.specs.BucketView.{bucket_view, node_view}
use Rattle.fc_wire.specs.FieldReading.{many}
use Rattle.fc_wire.specs.Reading.{part_at, node_at}
use Rattle.fc_wire.proofs.Loop.{goes_on, ends, is_done}
use Rattle.fc_wire.proofs.decoding.+decoding.Goals as goal

pub buckets_at-returns-in_err-bucket : goal.buckets_at-returns-in_err-bucket
buckets_at-returns-in_err-bucket t c =
    let p = err_from_is_err_and c.from_residual-in_err-bucket.result c.from_residual-in_err-bucket.ensures.1 in
    rw (p.1, p.2)
    (ends (part_at c.args.depth) (λ (x : PartialBucket × Bor (List ℕ)). (bucket_view x.0, x.1.now)) (λ (x : Vec PartialBucket Global × Bor (List ℕ)). (map bucket_view x.0.items, x.1.now)) c.in_err-bucket.field-0.0 (map bucket_view c.loop.buckets.items) c.args.count c.loop.counter c.loop.rest.now (many (part_at c.args.depth) c.args.count c.args.bytes.now) c.loop-test.true c.in_err-bucket.ensures c.loop.invariant)

pub buckets_at-loop-preserved : goal.buckets_at-loop-preserved
buckets_at-loop-preserved t c =
    let v = c.in_ok-bucket.bucket in
    let e : map bucket_view c.push.new.self.items ≡ map bucket_view c.loop.buckets.items ++ bucket_view v ∷ [] = rw c.in_ok-push.ensures.items (map_push _ c.loop.buckets.items v) in
    rw e (goes_on (part_at c.args.depth) (map bucket_view c.loop.buckets.items) c.args.count c.loop.counter c.loop.rest.now (bucket_view v) c.in_ok-bucket.after.now (many (part_at c.args.depth) c.args.count c.args.bytes.now) c.loop-test.true c.in_ok-bucket.ensures c.loop.invariant)

pub buckets_at-returns : goal.buckets_at-returns
buckets_at-returns t c = is_done (part_at c.args.depth) (map bucket_view c.loop.buckets.items) c.args.count c.loop.counter c.loop.rest.now (many (part_at c.args.depth) c.args.count c.args.bytes.now) c.loop-test.false c.loop.invariant

pub nodes_at-returns-in_err-node : goal.nodes_at-returns-in_err-node
nodes_at-returns-in_err-node t c =
    let p = err_from_is_err_and c.from_residual-in_err-node.result c.from_residual-in_err-node.ensures.1 in
    rw (p.1, p.2)
    (ends (node_at c.args.depth) (λ (x : PartialNode × Bor (List ℕ)). (node_view x.0, x.1.now)) (λ (x : Vec PartialNode Global × Bor (List ℕ)). (map node_view x.0.items, x.1.now)) c.in_err-node.field-0.0 (map node_view c.loop.nodes.items) c.args.count c.loop.counter c.loop.rest.now (many (node_at c.args.depth) c.args.count c.args.bytes.now) c.loop-test.true c.in_err-node.ensures c.loop.invariant)

pub nodes_at-loop-preserved : goal.nodes_at-loop-preserved
nodes_at-loop-preserved t c =
    let v = c.in_ok-node.node in
    let e : map node_view c.push.new.self.items ≡ map node_view c.loop.nodes.items ++ node_view v ∷ [] = rw c.in_ok-push.ensures.items (map_push _ c.loop.nodes.items v) in
    rw e (goes_on (node_at c.args.depth) (map node_view c.loop.nodes.items) c.args.count c.loop.counter c.loop.rest.now (node_view v) c.in_ok-node.after.now (many (node_at c.args.depth) c.args.count c.args.bytes.now) c.loop-test.true c.in_ok-node.ensures c.loop.invariant)

pub nodes_at-returns : goal.nodes_at-returns
nodes_at-returns t c = is_done (node_at c.args.depth) (map node_view c.loop.nodes.items) c.args.count c.loop.counter c.loop.rest.now (many (node_at c.args.depth) c.args.count c.args.bytes.now) c.loop-test.false c.loop.invariant
