-- Messages have one spelling.
use Rattle.std.specs.Prelude.{◌≡◌, ℕ, List, ◌++◌, length}
use Rattle.std.specs.List.{flat_map}
use Rattle.std.proofs.Common.{refl}
use Rattle.fc_spec.specs.requests.Statistics.{Stats}
use Rattle.fc_spec.specs.messages.Message.{Partials, no_partials, partial, Rows, no_rows, row}
use Rattle.fc_spec.specs.messages.MessageBytes.{long_bytes, key_bytes, value_bytes, stats_bytes, partial_count, row_count, partials_bytes, rows_bytes}
use Rattle.fc_spec.specs.laws.SpellingLaw.{FitsKey, FitsValue, FitsStats, FitsPartials, FitsRows, HasOneSpelling}
use Rattle.fc_spec.proofs.words.Cancelling.{Cancels, regroup, cancel_front, Cancels-flat_map}
use Rattle.fc_spec.proofs.messages.FixedBytes.{IsLong, Cancels-long}
use Rattle.fc_spec.proofs.messages.KeySpelling.{Cancels-key, Cancels-value}

-- numbers in front of others
cancel_long : (a b : ℕ) (s t x y : List ℕ) → IsLong a → IsLong b → (long_bytes a ++ s) ++ x ≡ (long_bytes b ++ t) ++ y → (a ≡ b) × (s ++ x ≡ t ++ y)
cancel_long = cancel_front long_bytes IsLong Cancels-long

-- what follows the count in statistics
abbrev after_count : Stats → List ℕ
after_count s = long_bytes (length s.values) ++ flat_map value_bytes s.values

-- statistics cancel
Cancels-stats : Cancels stats_bytes FitsStats
Cancels-stats s t x y p q e =
    let count = cancel_long s.count t.count (after_count s) (after_count t) x y p.0 q.0 e in
    let number = cancel_long (length s.values) (length t.values) (flat_map value_bytes s.values) (flat_map value_bytes t.values) x y p.1 q.1 count.1 in
    let values = Cancels-flat_map value_bytes FitsValue Cancels-value s.values t.values x y number.0 p.2 q.2 number.1 in
    (λ i. record { count = count.0 i; values = values.0 i }, values.1)

-- what follows the number of nodes, the statistics and the key in buckets
abbrev after_number : Rows → Partials → List ℕ
after_number rows rest = rows_bytes rows ++ partials_bytes rest

abbrev after_stats : Rows → Partials → List ℕ
after_stats rows rest = long_bytes (row_count rows) ++ after_number rows rest

abbrev after_key : Stats → Rows → Partials → List ℕ
after_key stats rows rest = stats_bytes stats ++ after_stats rows rest

-- what follows the number of buckets in nodes
abbrev after_buckets : Partials → Rows → List ℕ
after_buckets ps rest = partials_bytes ps ++ rows_bytes rest

mutual
  -- as many buckets cancel
  cancel_partials : (m n : Partials) (x y : List ℕ) → partial_count m ≡ partial_count n → FitsPartials m → FitsPartials n
      → partials_bytes m ++ x ≡ partials_bytes n ++ y → (m ≡ n) × (x ≡ y)
  cancel_partials no_partials no_partials x y c p q e = (refl, e)
  cancel_partials no_partials (partial key stats rows rest) x y c p q e = absurd cc
  cancel_partials (partial key stats rows rest) no_partials x y c p q e = absurd cc
  cancel_partials (partial key stats rows rest) (partial key' stats' rows' rest') x y c p q e =
      let k = cancel_front key_bytes FitsKey Cancels-key key key' (after_key stats rows rest) (after_key stats' rows' rest') x y p.0 q.0 e in
      let s = cancel_front stats_bytes FitsStats Cancels-stats stats stats' (after_stats rows rest) (after_stats rows' rest') x y p.1 q.1 k.1 in
      let n = cancel_long (row_count rows) (row_count rows') (after_number rows rest) (after_number rows' rest') x y p.2 q.2 s.1 in
      let nodes = regroup (rows_bytes rows) (rows_bytes rows') (partials_bytes rest) (partials_bytes rest') x y n.1 in
      let r = cancel_rows rows rows' (partials_bytes rest ++ x) (partials_bytes rest' ++ y) n.0 p.3 q.3 nodes in
      let m = cancel_partials rest rest' x y (cc) p.4 q.4 r.1 in
      (λ i. partial (k.0 i) (s.0 i) (r.0 i) (m.0 i), m.1)

  -- as many nodes cancel
  cancel_rows : (m n : Rows) (x y : List ℕ) → row_count m ≡ row_count n → FitsRows m → FitsRows n
      → rows_bytes m ++ x ≡ rows_bytes n ++ y → (m ≡ n) × (x ≡ y)
  cancel_rows no_rows no_rows x y c p q e = (refl, e)
  cancel_rows no_rows (row ps rest) x y c p q e = absurd cc
  cancel_rows (row ps rest) no_rows x y c p q e = absurd cc
  cancel_rows (row ps rest) (row ps' rest') x y c p q e =
      let n = cancel_long (partial_count ps) (partial_count ps') (after_buckets ps rest) (after_buckets ps' rest') x y p.0 q.0 e in
      let buckets = regroup (partials_bytes ps) (partials_bytes ps') (rows_bytes rest) (rows_bytes rest') x y n.1 in
      let b = cancel_partials ps ps' (rows_bytes rest ++ x) (rows_bytes rest' ++ y) n.0 p.1 q.1 buckets in
      let r = cancel_rows rest rest' x y (cc) p.2 q.2 b.1 in
      (λ i. row (b.0 i) (r.0 i), r.1)

-- messages have one spelling
pub one_spelling : HasOneSpelling
one_spelling m n x y p q e =
    let c = cancel_long (partial_count m) (partial_count n) (partials_bytes m) (partials_bytes n) x y p.0 q.0 cc in
    cancel_partials m n x y c.0 p.1 q.1 c.1
