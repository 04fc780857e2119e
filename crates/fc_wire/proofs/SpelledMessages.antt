-- A message that is spelled so is read.
use Rattle.std.proofs.Common.{◌≡◌, ℕ, zero, suc, ◌^◌, ◌<◌, ◌≤◌, List, [], ◌∷◌, ◌++◌, Ok, refl, sym, ap, ◌∙◌, append_assoc, append-nil, arith}
use Rattle.fc_spec.specs.requests.Buckets.{Key}
use Rattle.fc_spec.specs.requests.Statistics.{Stats}
use Rattle.fc_spec.specs.messages.Message.{Partials, no_partials, partial, Rows, no_rows, row}
use Rattle.fc_spec.specs.messages.MessageBytes.{long_bytes, key_bytes, stats_bytes, partial_count, row_count, partials_bytes, rows_bytes}
use Rattle.fc_spec.specs.messages.Nesting.{nesting, rows_nesting, Spells}
use Rattle.fc_spec.specs.laws.SpellingLaw.{FitsStats}
use Rattle.fc_partial.specs.BucketView.{Part, linked, linked_rows}
use Rattle.fc_wire.specs.Fitting.{KeyFits, BucketsFit, NodesFit}
use Rattle.fc_wire.specs.FieldReading.{many, counted}
use Rattle.fc_wire.specs.Reading.{part_with, node_with, part_at, whole_of, message_of}
use Rattle.fc_wire.proofs.NumberLaws.{long_again}
use Rattle.fc_wire.proofs.KeyLaws.{key_again}
use Rattle.fc_wire.proofs.StatisticLaws.{stats_again}
use Rattle.fc_wire.proofs.Linked.{four_in_front}

parts_of : Partials → List Part
parts_of no_partials = []
parts_of (partial key stats rows rest) = record { key = key; stats = stats; rows = rows } ∷ parts_of rest

lists_of : Rows → List Partials
lists_of no_rows = []
lists_of (row ps rest) = ps ∷ lists_of rest

linked_again : (m : Partials) → linked (parts_of m) ≡ m
unfolding parts_of
linked_again no_partials = refl
linked_again (partial key stats rows rest) = ap (partial key stats rows) (linked_again rest)

linked_rows_again : (rows : Rows) → linked_rows (lists_of rows) ≡ rows
unfolding lists_of
linked_rows_again no_rows = refl
linked_rows_again (row ps rest) = ap (row ps) (linked_rows_again rest)

-- one bucket, where its nodes are read
one_part : (depth : ℕ) (key : Key) (stats : Stats) (rows : Rows) (rest : List ℕ) → KeyFits key → FitsStats stats → row_count rows < 2 ^ 64 → many (node_with (part_at depth)) (row_count rows) (rows_bytes rows ++ rest) ≡ Ok (lists_of rows, rest)
    → part_at (suc depth) (key_bytes key ++ (stats_bytes stats ++ (long_bytes (row_count rows) ++ (rows_bytes rows ++ rest)))) ≡ Ok (record { key = key; stats = stats; rows = rows }, rest)
unfolding part_at part_with counted
one_part depth key stats rows rest k s n inside =
    rw (key_again key (stats_bytes stats ++ (long_bytes (row_count rows) ++ (rows_bytes rows ++ rest))) k, stats_again stats (long_bytes (row_count rows) ++ (rows_bytes rows ++ rest)) s, long_again (row_count rows) (rows_bytes rows ++ rest) n, inside)
    (ap (λ r. Ok (record { key = key; stats = stats; rows = r }, rest)) (linked_rows_again rows))

-- one node, where its buckets are read
one_node : (depth : ℕ) (ps : Partials) (rest : List ℕ) → partial_count ps < 2 ^ 64 → many (part_at depth) (partial_count ps) (partials_bytes ps ++ rest) ≡ Ok (parts_of ps, rest)
    → node_with (part_at depth) (long_bytes (partial_count ps) ++ (partials_bytes ps ++ rest)) ≡ Ok (ps, rest)
unfolding node_with counted
one_node depth ps rest n inside = rw (long_again (partial_count ps) (partials_bytes ps ++ rest) n, inside) (ap (λ m. Ok (m, rest)) (linked_again ps))

regrouped : (a b c d e rest : List ℕ) → (a ++ (b ++ (c ++ (d ++ e)))) ++ rest ≡ a ++ (b ++ (c ++ (d ++ (e ++ rest))))
regrouped a b c d e rest = append_assoc a (b ++ (c ++ (d ++ e))) rest ∙ ap (λ l. a ++ l) (four_in_front b c d e rest)

mutual
  unfolding many parts_of lists_of

  buckets_again : (m : Partials) (depth : ℕ) (rest : List ℕ) → BucketsFit m → nesting m ≤ depth → many (part_at depth) (partial_count m) (partials_bytes m ++ rest) ≡ Ok (parts_of m, rest)
  buckets_again no_partials depth rest fit deep = refl
  buckets_again (partial key stats rows more) zero rest fit deep = absurd (omega (arith, deep))
  buckets_again (partial key stats rows more) (suc depth) rest fit deep =
      let tail = partials_bytes more ++ rest in
      let grouped : partials_bytes (partial key stats rows more) ++ rest ≡ key_bytes key ++ (stats_bytes stats ++ (long_bytes (row_count rows) ++ (rows_bytes rows ++ tail))) = regrouped (key_bytes key) (stats_bytes stats) (long_bytes (row_count rows)) (rows_bytes rows) (partials_bytes more) rest in
      let first = one_part depth key stats rows tail (fit.0.0, fit.1.0) fit.0.1 fit.0.2 (rows_again rows depth tail (fit.0.3, fit.1.1) (omega (arith, deep))) in
      let others = buckets_again more (suc depth) rest (fit.0.4, fit.1.2) (omega (arith, deep)) in
      ap (many (part_at (suc depth)) (suc (partial_count more))) grouped ∙ rw (first, others) refl

  rows_again : (rows : Rows) (depth : ℕ) (rest : List ℕ) → NodesFit rows → rows_nesting rows ≤ depth → many (node_with (part_at depth)) (row_count rows) (rows_bytes rows ++ rest) ≡ Ok (lists_of rows, rest)
  rows_again no_rows depth rest fit deep = refl
  rows_again (row ps more) depth rest fit deep =
      let tail = rows_bytes more ++ rest in
      let grouped : rows_bytes (row ps more) ++ rest ≡ long_bytes (partial_count ps) ++ (partials_bytes ps ++ tail) = append_assoc (long_bytes (partial_count ps)) (partials_bytes ps ++ rows_bytes more) rest ∙ ap (λ l. long_bytes (partial_count ps) ++ l) (append_assoc (partials_bytes ps) (rows_bytes more) rest) in
      let first = one_node depth ps tail fit.0.0 (buckets_again ps depth tail (fit.0.1, fit.1.0) (omega (arith, deep))) in
      let others = rows_again more depth rest (fit.0.2, fit.1.1) (omega (arith, deep)) in
      ap (many (node_with (part_at depth)) (suc (row_count more))) grouped ∙ rw (first, others) refl

-- a message that the bytes spell is read
pub spelled_is_read : (bytes : List ℕ) (m : Partials) → Spells bytes m → message_of bytes ≡ Ok m
unfolding message_of whole_of counted
spelled_is_read bytes m spelled =
    let P = partials_bytes m in
    let inside : many (part_at 9) (partial_count m) P ≡ Ok (parts_of m, []) = ap (many (part_at 9) (partial_count m)) (sym (append-nil P)) ∙ buckets_again m 9 [] (spelled.1.0.1, spelled.1.1) spelled.1.2 in
    ap message_of spelled.0 ∙ rw (long_again (partial_count m) P spelled.1.0.0, inside) (ap Ok (linked_again m))
