use Rattle.std.proofs.Common.{◌≡◌, ◌-◌, ◌+◌, ◌*◌, map}
use Rattle.fc_partial.specs.BucketView.{bucket_view, node_view}
use Rattle.fc_wire.specs.FieldReading.{many}
use Rattle.fc_wire.specs.Reading.{part_at, node_at}
use Rattle.fc_wire.proofs.Loop.{with_front}
use Rattle.fc_wire.proofs.decoding.+decoding.Given as goal

abbrev pub decreases-bucket_at : goal.decreases-bucket_at
decreases-bucket_at l = 4 * l.depth

abbrev pub decreases-buckets_at : goal.decreases-buckets_at
decreases-buckets_at l = 4 * l.depth + 1

abbrev pub decreases-node_at : goal.decreases-node_at
decreases-node_at l = 4 * l.depth + 2

abbrev pub decreases-nodes_at : goal.decreases-nodes_at
decreases-nodes_at l = 4 * l.depth + 3

-- with those that are still read they are all
abbrev pub invariant-buckets_at-loop : goal.invariant-buckets_at-loop
invariant-buckets_at-loop l = with_front (map bucket_view l.buckets.items) (many (part_at l.depth) (l.count - l.counter) l.rest) ≡ many (part_at l.depth) l.count l.bytes

abbrev pub invariant-nodes_at-loop : goal.invariant-nodes_at-loop
invariant-nodes_at-loop l = with_front (map node_view l.nodes.items) (many (node_at l.depth) (l.count - l.counter) l.rest) ≡ many (node_at l.depth) l.count l.bytes
