-- Whether told buckets can be added, row by row and bucket by bucket.
use Rattle.std.proofs.Common.{◌≡◌, ℕ, suc, ◌+◌, ◌<◌, List, [], ◌∷◌, ◌++◌, length, get_or, drop, drop-cons, add-one, Bool, true, false, ◌&&◌, refl, sym, ap, ◌∙◌, arith}
use Rattle.fc_spec.specs.requests.Request.{Nodes, statistic}
use Rattle.fc_spec.specs.requests.Paths.{at_root}
use Rattle.fc_spec.specs.messages.Held.{told_root, told_wants}
use Rattle.fc_spec.specs.messages.Message.{Rows, no_rows, row, Step, Way, way_of}
use Rattle.fc_spec.specs.messages.Target.{leads_to}
use Rattle.fc_facet.specs.declared.kind.Kind.TheVariants as k
use Rattle.fc_partial.specs.BucketView.{Part, bucket_step, node_step, bucket_view, buckets_view, node_view, rows_view}
use Rattle.fc_partial.specs.StatsView.{stats_view}
use Rattle.fc_partial.specs.View.{key_view}
use Rattle.fc_partial.specs.declared.bucket.PartialBucket.{PartialBucket, out-PartialBucket}
use Rattle.fc_partial.specs.declared.bucket.PartialBucket.TheFolds.{fold_out-PartialBucket}
use Rattle.fc_partial.specs.declared.bucket.PartialNode.{PartialNode}
use Rattle.fc_request.specs.FacetNode.{has_buckets, kind_of}
use Rattle.fc_request.specs.NodeView.{nodes_view}
use Rattle.fc_request.specs.declared.node.Node.{Node, out-Node}
use Rattle.fc_request.proofs.Nodes.{facet_is, statistic_is}
use Rattle.fc_refine.specs.Along.{nodes_along}
use Rattle.fc_refine.specs.AskView.{want_view, wants_view}
use Rattle.fc_refine.specs.declared.ask.Want.{Want}
use Rattle.fc_refine.proofs.Shapes.{nodes_from, buckets_from, target_along}
use Rattle.fc_told.specs.Trees.{Tree, child, at}
use Rattle.fc_told.specs.Fitting.{numbers_fit, rows_fit, partials_fit, bucket_fits, all_fit}

-- one step more
pub at_more : (way : Way) (step : Step) (T : Tree) → at (way ++ step ∷ []) T ≡ child step (at way T)
at_more [] step T = refl
at_more (s ∷ way) step T = at_more way step (child s T)

pub part_is : (b : PartialBucket) → bucket_view b ≡ record { key = key_view (out-PartialBucket b).key; stats = stats_view (out-PartialBucket b).stats; rows = rows_view (out-PartialBucket b).nodes.items }
part_is b = fold_out-PartialBucket Part _ bucket_step node_step b

-- ---- rows

suc_is : (n : ℕ) → suc n ≡ n + 1
suc_is n = omega arith

stat_passed : (T : Tree) (n : ℕ) (rows : Rows) (name : List ℕ) (s : _) (rest : Nodes) → rows_fit T n rows (statistic name s rest) ≡ rows_fit T (suc n) rows rest
stat_passed T n no_rows name s rest = refl
stat_passed T n (row ps rows) name s rest = refl

module _ (T : Tree) (xs : List Node) (i : ℕ) (n : Node) (within : i < length xs) (is : n ≡ get_or xs i n) where
  pub statistic_passed : (rows : List PartialNode) (s : _) → kind_of n ≡ k.Stat s → rows_fit T i (rows_view rows) (nodes_view (drop i xs)) ≡ rows_fit T (i + 1) (rows_view rows) (nodes_view (drop (i + 1) xs))
  statistic_passed rows s kind =
      let rest = nodes_view (drop (i + 1) xs) in
      ap (rows_fit T i (rows_view rows)) (nodes_from xs i n within is ∙ statistic_is n s kind rest)
      ∙ stat_passed T i (rows_view rows) _ _ rest ∙ ap (λ m. rows_fit T m (rows_view rows) rest) (suc_is i)

  pub row_first : (rows left : List PartialNode) (r : PartialNode) (inner : List Node) (b : Bool) → has_buckets (kind_of n) ≡ true → rows ≡ r ∷ left → inner ≡ (out-Node n).nodes.items
      → b ≡ partials_fit T i (node_view r) (nodes_view inner) → rows_fit T i (rows_view rows) (nodes_view (drop i xs)) ≡ (b && rows_fit T (i + 1) (rows_view left) (nodes_view (drop (i + 1) xs)))
  row_first rows left r inner b h split inside fit =
      let rest = nodes_view (drop (i + 1) xs) in
      ap (λ l. rows_fit T i (rows_view l) (nodes_view (drop i xs))) split
      ∙ ap (rows_fit T i (rows_view (r ∷ left))) (nodes_from xs i n within is ∙ facet_is n h rest)
      ∙ ap (λ l. partials_fit T i (node_view r) (nodes_view l) && rows_fit T (suc i) (rows_view left) rest) (sym inside)
      ∙ ap (λ c. c && rows_fit T (suc i) (rows_view left) rest) (sym fit) ∙ ap (λ m. b && rows_fit T m (rows_view left) rest) (suc_is i)

-- behind the last node
pub rows_done : (T : Tree) (n i : ℕ) (rows : List PartialNode) (xs : List Node) → drop i xs ≡ [] → rows_fit T n (rows_view rows) (nodes_view (drop i xs)) ≡ true
rows_done T n i rows xs end = ap (λ l. rows_fit T n (rows_view rows) (nodes_view l)) end ∙ go rows
  where
    go : (rows : List PartialNode) → rows_fit T n (rows_view rows) (nodes_view []) ≡ true
    go [] = refl
    go (r ∷ rows) = refl

-- ---- buckets

pub bucket_first : (T there : Tree) (n : ℕ) (bs : List PartialBucket) (i : ℕ) (b : PartialBucket) (N : Nodes) (f : Bool) → i < length bs → b ≡ get_or bs i b → there ≡ child (record { node = n; key = key_view (out-PartialBucket b).key }) T
    → f ≡ bucket_fits there (stats_view (out-PartialBucket b).stats) (rows_view (out-PartialBucket b).nodes.items) N → partials_fit T n (buckets_view (drop i bs)) N ≡ (f && partials_fit T n (buckets_view (drop (i + 1) bs)) N)
bucket_first T there n bs i b N f within is found fit =
    ap (λ l. partials_fit T n (buckets_view l) N) (buckets_from bs i b within is)
    ∙ ap (λ (p : Part). numbers_fit (child (record { node = n; key = p.key }) T) p.stats && rows_fit (child (record { node = n; key = p.key }) T) 0 p.rows N && partials_fit T n (buckets_view (drop (i + 1) bs)) N) (part_is b)
    ∙ ap (λ C. bucket_fits C (stats_view (out-PartialBucket b).stats) (rows_view (out-PartialBucket b).nodes.items) N && partials_fit T n (buckets_view (drop (i + 1) bs)) N) (sym found)
    ∙ ap (λ c. c && partials_fit T n (buckets_view (drop (i + 1) bs)) N) (sym fit)

-- ---- top buckets

pub want_first : (T there : Tree) (nodes N : Nodes) (shard : ℕ) (ws : List Want) (bs : List PartialBucket) (i : ℕ) (w : Want) (b : PartialBucket) (f : Bool) → i < length ws → w ≡ get_or ws i w → i < length bs → b ≡ get_or bs i b
    → N ≡ nodes_along nodes (way_of (want_view w)) → there ≡ at (way_of (want_view w)) T
    → f ≡ bucket_fits there (stats_view (out-PartialBucket b).stats) (rows_view (out-PartialBucket b).nodes.items) N
    → all_fit T (told_wants nodes shard (wants_view (drop i ws)) (buckets_view (drop i bs))) ≡ (f && all_fit T (told_wants nodes shard (wants_view (drop (i + 1) ws)) (buckets_view (drop (i + 1) bs))))
want_first T there nodes N shard ws bs i w b f lw iw lb ib along found fit =
    let rest = all_fit T (told_wants nodes shard (wants_view (drop (i + 1) ws)) (buckets_view (drop (i + 1) bs))) in
    let way = way_of (want_view w) in
    let first : drop i ws ≡ w ∷ drop (i + 1) ws = drop-cons ws i w lw ∙ ap (λ x. x ∷ drop (suc i) ws) (sym iw) ∙ ap (λ j. w ∷ drop j ws) (sym (add-one i)) in
    ap (λ l. all_fit T (told_wants nodes shard (wants_view l) (buckets_view (drop i bs)))) first
    ∙ ap (λ l. all_fit T (told_wants nodes shard (wants_view (w ∷ drop (i + 1) ws)) (buckets_view l))) (buckets_from bs i b lb ib)
    ∙ ap (λ ns. bucket_fits (at way T) (bucket_view b).stats (bucket_view b).rows ns && rest) (target_along (leads_to at_root nodes) way ∙ sym along)
    ∙ ap (λ (p : Part). bucket_fits (at way T) p.stats p.rows N && rest) (part_is b)
    ∙ ap (λ C. bucket_fits C (stats_view (out-PartialBucket b).stats) (rows_view (out-PartialBucket b).nodes.items) N && rest) (sym found) ∙ ap (λ c. c && rest) (sym fit)

and_true : (b : Bool) → b ≡ (b && true)
and_true true = refl
and_true false = refl

pub root_first : (T : Tree) (nodes : Nodes) (shard : ℕ) (bs : List PartialBucket) (b : PartialBucket) → 0 < length bs → b ≡ get_or bs 0 b
    → bucket_fits T (stats_view (out-PartialBucket b).stats) (rows_view (out-PartialBucket b).nodes.items) nodes ≡ all_fit T (told_root nodes shard (buckets_view bs))
root_first T nodes shard [] b l is = absurd (omega arith)
root_first T nodes shard (x ∷ bs) b l is =
    and_true (bucket_fits T (stats_view (out-PartialBucket b).stats) (rows_view (out-PartialBucket b).nodes.items) nodes)
    ∙ ap (λ (p : Part). bucket_fits T p.stats p.rows nodes && true) (sym (part_is b)) ∙ ap (λ y. bucket_fits T (bucket_view y).stats (bucket_view y).rows nodes && true) is
