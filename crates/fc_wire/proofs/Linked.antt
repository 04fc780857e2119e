-- The bytes of buckets and nodes, one by one.
use Rattle.std.proofs.Common.{◌≡◌, ℕ, suc, List, [], ◌∷◌, ◌++◌, length, refl, sym, ap, ◌∙◌, append_assoc}
use Rattle.std.specs.List.{flat_map}
use Rattle.std.proofs.lemmas.List.Concat.{flat_map-cons}
use Rattle.fc_spec.specs.messages.Message.{Partials}
use Rattle.fc_spec.specs.messages.MessageBytes.{long_bytes, key_bytes, stats_bytes, partial_count, row_count, partials_bytes, rows_bytes}
use Rattle.fc_partial.specs.BucketView.{Part, linked, linked_rows}

unfoldable pub part_bytes : Part → List ℕ
part_bytes p = key_bytes p.key ++ (stats_bytes p.stats ++ (long_bytes (row_count p.rows) ++ rows_bytes p.rows))

unfoldable pub node_bytes : Partials → List ℕ
node_bytes ps = long_bytes (partial_count ps) ++ partials_bytes ps

pub four_in_front : (a b c d rest : List ℕ) → (a ++ (b ++ (c ++ d))) ++ rest ≡ a ++ (b ++ (c ++ (d ++ rest)))
four_in_front a b c d rest = append_assoc a (b ++ (c ++ d)) rest ∙ ap (λ l. a ++ l) (append_assoc b (c ++ d) rest ∙ ap (λ l. b ++ l) (append_assoc c d rest))

pub linked_bytes : (ps : List Part) → partials_bytes (linked ps) ≡ flat_map part_bytes ps
unfolding part_bytes
linked_bytes [] = refl
linked_bytes (p ∷ ps) =
    ap (λ l. key_bytes p.key ++ (stats_bytes p.stats ++ (long_bytes (row_count p.rows) ++ (rows_bytes p.rows ++ l)))) (linked_bytes ps)
    ∙ sym (four_in_front (key_bytes p.key) (stats_bytes p.stats) (long_bytes (row_count p.rows)) (rows_bytes p.rows) (flat_map part_bytes ps)) ∙ sym (flat_map-cons part_bytes p ps)

pub linked_rows_bytes : (pss : List Partials) → rows_bytes (linked_rows pss) ≡ flat_map node_bytes pss
unfolding node_bytes
linked_rows_bytes [] = refl
linked_rows_bytes (ps ∷ pss) =
    ap (λ l. long_bytes (partial_count ps) ++ (partials_bytes ps ++ l)) (linked_rows_bytes pss)
    ∙ sym (append_assoc (long_bytes (partial_count ps)) (partials_bytes ps) (flat_map node_bytes pss)) ∙ sym (flat_map-cons node_bytes ps pss)

pub linked_count : (ps : List Part) → partial_count (linked ps) ≡ length ps
linked_count [] = refl
linked_count (p ∷ ps) = ap suc (linked_count ps)

pub linked_rows_count : (pss : List Partials) → row_count (linked_rows pss) ≡ length pss
linked_rows_count [] = refl
linked_rows_count (ps ∷ pss) = ap suc (linked_rows_count pss)
