-- A message is read from bytes, from left to right.
use Rattle.std.specs.Prelude.{ℕ, zero, suc, List, [], ◌∷◌, length, Result, Ok, Err, ◌==◌, if◌then◌else◌}
use Rattle.fc_spec.specs.words.Walks.{◌>>=◌}
use Rattle.fc_spec.specs.messages.Message.{Partials}
use Rattle.fc_partial.specs.BucketView.{Part, linked, linked_rows}
use Rattle.fc_wire.specs.FieldReading.{Read, counted, key_at, stats_at}

-- a bucket, with what reads the nodes in it
unfoldable pub part_with : (List ℕ → Read Partials) → List ℕ → Read Part
part_with node bytes = do
  key ← key_at bytes
  stats ← stats_at key.1
  nodes ← counted node stats.1
  Ok (record { key = key.0; stats = stats.0; rows = linked_rows nodes.0 }, nodes.1)

-- a node, with what reads a bucket in it
unfoldable pub node_with : (List ℕ → Read Part) → List ℕ → Read Partials
node_with part bytes = do
  parts ← counted part bytes
  Ok (linked parts.0, parts.1)

-- a bucket under which buckets nest less deep than this
unfoldable pub part_at : ℕ → List ℕ → Read Part
part_at zero bytes = Err tt
part_at (suc depth) bytes = part_with (node_with (part_at depth)) bytes

-- a node in which they do
unfoldable pub node_at : ℕ → List ℕ → Read Partials
node_at depth bytes = node_with (part_at depth) bytes

-- behind the mark the buckets, and nothing behind them
unfoldable pub whole_of : List ℕ → Result Partials (Unit {0})
whole_of bytes = do
  parts ← counted (part_at 9) bytes
  if length parts.1 == 0 then Ok (linked parts.0) else Err tt

unfoldable pub message_of : List ℕ → Result Partials (Unit {0})
message_of [] = Err tt
message_of (mark ∷ bytes) = if mark == 77 then whole_of bytes else Err tt
