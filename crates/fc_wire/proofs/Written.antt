-- What was written behind other bytes, piece by piece.
use Rattle.std.proofs.Common.{◌≡◌, ℕ, suc, ◌+◌, ◌<◌, List, ◌∷◌, ◌++◌, append_assoc, drop, drop-cons, get_or, length, map, sym, ◌∙◌, ap, add-one}
use Rattle.std.proofs.lemmas.List.{length-map}
use Rattle.fc_spec.specs.messages.Message.{Partials, partial, row}
use Rattle.fc_spec.specs.messages.MessageBytes.{partial_count, row_count}
use Rattle.fc_partial.specs.BucketView.{Part, bucket_step, node_step, bucket_view, buckets_view, node_view, rows_view}
use Rattle.fc_partial.specs.StatsView.{stats_view}
use Rattle.fc_partial.specs.View.{key_view}
use Rattle.fc_partial.specs.declared.bucket.PartialBucket.TheFolds.{fold_out-PartialBucket, fold_out-PartialNode}
use Rattle.fc_partial.specs.declared.bucket.PartialBucket.{PartialBucket, out-PartialBucket}
use Rattle.fc_partial.specs.declared.bucket.PartialNode.{PartialNode, out-PartialNode}
use Rattle.fc_wire.proofs.Linked.{linked_count, linked_rows_count}

-- two, three and four pieces behind each other, in front of a rest
pub two_pieces : (o a b x y rest : List ℕ) → a ≡ o ++ x → b ≡ a ++ y → b ++ rest ≡ o ++ (x ++ (y ++ rest))
two_pieces o a b x y rest p q = ap (λ l. l ++ rest) (q ∙ ap (λ l. l ++ y) p) ∙ append_assoc (o ++ x) y rest ∙ append_assoc o x (y ++ rest)

pub three_pieces : (o a b c x y z rest : List ℕ) → a ≡ o ++ x → b ≡ a ++ y → c ≡ b ++ z → c ++ rest ≡ o ++ (x ++ (y ++ (z ++ rest)))
three_pieces o a b c x y z rest p q r = ap (λ l. l ++ rest) r ∙ append_assoc b z rest ∙ two_pieces o a b x y (z ++ rest) p q

pub four_pieces : (o a b c d x y z w rest : List ℕ) → a ≡ o ++ x → b ≡ a ++ y → c ≡ b ++ z → d ≡ c ++ w → d ++ rest ≡ o ++ (x ++ (y ++ (z ++ (w ++ rest))))
four_pieces o a b c d x y z w rest p q r s = ap (λ l. l ++ rest) s ∙ append_assoc c w rest ∙ three_pieces o a b c x y z (w ++ rest) p q r

-- with nothing behind them
pub two_alone : (o a b x y : List ℕ) → a ≡ o ++ x → b ≡ a ++ y → b ≡ o ++ (x ++ y)
two_alone o a b x y p q = q ∙ ap (λ l. l ++ y) p ∙ append_assoc o x y

pub three_alone : (o a b c x y z : List ℕ) → a ≡ o ++ x → b ≡ a ++ y → c ≡ b ++ z → c ≡ o ++ (x ++ (y ++ z))
three_alone o a b c x y z p q r = r ∙ two_pieces o a b x y z p q

-- ---- buckets and nodes from an index on

-- a node is its buckets
pub node_is : (n : PartialNode) → node_view n ≡ buckets_view (out-PartialNode n).buckets.items
node_is n = fold_out-PartialNode Part Partials bucket_step node_step n

-- a bucket in front of others
abbrev pub before_others : PartialBucket → Partials → Partials
before_others b rest = partial (key_view (out-PartialBucket b).key) (stats_view (out-PartialBucket b).stats) (rows_view (out-PartialBucket b).nodes.items) rest

pub bucket_is : (b : PartialBucket) (rest : Partials) → partial (bucket_view b).key (bucket_view b).stats (bucket_view b).rows rest ≡ before_others b rest
bucket_is b rest = ap (λ (p : Part). partial p.key p.stats p.rows rest) (fold_out-PartialBucket Part Partials bucket_step node_step b)

pub buckets_from : (bs : List PartialBucket) (i : ℕ) (b : PartialBucket) → i < length bs → b ≡ get_or bs i b → buckets_view (drop i bs) ≡ before_others b (buckets_view (drop (i + 1) bs))
buckets_from bs i b within is =
    ap buckets_view (drop-cons bs i b within ∙ ap (λ x. x ∷ drop (suc i) bs) (sym is) ∙ ap (λ j. b ∷ drop j bs) (sym (add-one i))) ∙ bucket_is b (buckets_view (drop (i + 1) bs))

pub nodes_from : (ns : List PartialNode) (i : ℕ) (n : PartialNode) → i < length ns → n ≡ get_or ns i n → rows_view (drop i ns) ≡ row (buckets_view (out-PartialNode n).buckets.items) (rows_view (drop (i + 1) ns))
nodes_from ns i n within is =
    ap rows_view (drop-cons ns i n within ∙ ap (λ x. x ∷ drop (suc i) ns) (sym is) ∙ ap (λ j. n ∷ drop j ns) (sym (add-one i))) ∙ ap (λ ps. row ps (rows_view (drop (i + 1) ns))) (node_is n)

-- ---- how many

pub buckets_count : (bs : List PartialBucket) → partial_count (buckets_view bs) ≡ length bs
buckets_count bs = linked_count (map bucket_view bs) ∙ length-map bs bucket_view

pub nodes_count : (ns : List PartialNode) → row_count (rows_view ns) ≡ length ns
nodes_count ns = linked_rows_count (map node_view ns) ∙ length-map ns node_view
