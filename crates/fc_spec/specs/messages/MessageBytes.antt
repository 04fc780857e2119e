-- Messages as bytes: numbers are little-endian and of fixed width.
use Rattle.std.specs.Prelude.{ℕ, suc, ℤ, List, [], ◌∷◌, ◌++◌, length, None, Some}
use Rattle.std.specs.Int.{to_le_bytes, cast_unsigned, w32, w64}
use Rattle.std.specs.List.{flat_map}
use Rattle.fc_spec.specs.documents.Val.{Val, text, long}
use Rattle.fc_spec.specs.requests.Buckets.{Key, value, missing, gap, before, between, after, whole}
use Rattle.fc_spec.specs.requests.Statistics.{StatValue, number, extreme, Stats}
use Rattle.fc_spec.specs.messages.Message.{Partials, no_partials, partial, Rows, no_rows, row}

-- a number of 8 bytes, and an integer in two's complement
abbrev pub long_bytes : ℕ → List ℕ
long_bytes n = to_le_bytes w64 n

abbrev pub integer_bytes : ℤ → List ℕ
integer_bytes z = long_bytes (cast_unsigned w64 z)

abbrev pub val_bytes : Val → List ℕ
val_bytes (text t) = 0 ∷ (long_bytes (length t) ++ t)
val_bytes (long z) = 1 ∷ integer_bytes z

abbrev pub key_bytes : Key → List ℕ
key_bytes (value v) = val_bytes v
key_bytes missing = 2 ∷ []
key_bytes (gap i) = 3 ∷ to_le_bytes w32 i
key_bytes before = 4 ∷ []
key_bytes between = 5 ∷ []
key_bytes after = 6 ∷ []
key_bytes whole = 7 ∷ []

abbrev pub value_bytes : StatValue → List ℕ
value_bytes (number z) = 0 ∷ integer_bytes z
value_bytes (extreme None) = 1 ∷ []
value_bytes (extreme (Some z)) = 2 ∷ integer_bytes z

-- the count, the number of the statistics, and the statistics
abbrev pub stats_bytes : Stats → List ℕ
stats_bytes s = long_bytes s.count ++ (long_bytes (length s.values) ++ flat_map value_bytes s.values)

-- how many buckets, and how many nodes
abbrev pub partial_count : Partials → ℕ
partial_count no_partials = 0
partial_count (partial key stats rows rest) = suc (partial_count rest)

abbrev pub row_count : Rows → ℕ
row_count no_rows = 0
row_count (row ps rest) = suc (row_count rest)

abbrev mutual
  -- buckets: each its key, its statistics, the number of its nodes, and the nodes
  pub partials_bytes : Partials → List ℕ
  partials_bytes no_partials = []
  partials_bytes (partial key stats rows rest) = key_bytes key ++ (stats_bytes stats ++ (long_bytes (row_count rows) ++ (rows_bytes rows ++ partials_bytes rest)))

  -- nodes: each the number of its buckets, and the buckets
  pub rows_bytes : Rows → List ℕ
  rows_bytes no_rows = []
  rows_bytes (row ps rest) = long_bytes (partial_count ps) ++ (partials_bytes ps ++ rows_bytes rest)

-- a message: its mark, the number of its buckets, and the buckets
abbrev pub message_bytes : Partials → List ℕ
message_bytes m = 77 ∷ (long_bytes (partial_count m) ++ partials_bytes m)
