-- Messages read beside the nodes of a request.
use Rattle.std.proofs.Common.{◌≡◌, ℕ, zero, suc, ◌+◌, ◌<◌, ◌≤◌, List, [], ◌∷◌, ◌++◌, map, drop, drop-cons, length, get_or, Bool, true, false, not, ◌&&◌, ◌==◌, Some, None, refl, sym, ap, ◌∙◌, arith, add-one}
use Rattle.std.proofs.lemmas.Bool.{ne_eqb}
use Rattle.fc_spec.specs.requests.Request.{Nodes, no_nodes, statistic, facet, stats_of}
use Rattle.fc_spec.specs.requests.RequestReading as reading
use Rattle.fc_spec.specs.requests.Buckets.{Key}
use Rattle.fc_spec.specs.messages.Message.{Partials, Way, Step}
use Rattle.fc_spec.specs.messages.Message as message
use Rattle.fc_spec.specs.messages.MessageShape.{is_complete, buckets_fit, rows_fit, insides_fit, wants_fit, root_fits, top_fits, is_nothing}
use Rattle.fc_spec.specs.requests.Ranks.{offered_bound}
use Rattle.fc_spec.specs.messages.Target as target
use Rattle.fc_spec.specs.messages.Target.{Target, leads_nowhere, leads_to, target_nodes, target_from, target_in, facet_at}
use Rattle.fc_facet.specs.declared.kind.Kind.TheVariants as k
use Rattle.fc_spec.specs.requests.Buckets.{whole}
use Rattle.fc_spec.specs.requests.Paths.{at_root}
use Rattle.fc_spec.specs.messages.KeyOrder.{same_key}
use Rattle.fc_spec.specs.messages.MessageShape.{values_fit}
use Rattle.fc_partial.specs.StatsView.{stats_view}
use Rattle.fc_partial.specs.View.{key_view, stat_value_view}
use Rattle.fc_partial.specs.BucketView.{Part, bucket_step, node_step, bucket_view, buckets_view, node_view, rows_view}
use Rattle.fc_partial.specs.declared.bucket.PartialBucket.TheFolds.{fold_out-PartialBucket}
use Rattle.fc_partial.specs.declared.bucket.PartialBucket.{PartialBucket, out-PartialBucket}
use Rattle.fc_partial.specs.declared.bucket.PartialNode.{PartialNode, out-PartialNode}
use Rattle.fc_request.specs.NodeView as request
use Rattle.fc_request.specs.NodeView.{nodes_view, inner_view}
use Rattle.fc_request.specs.FacetNode.{has_buckets, kind_of, kind_view}
use Rattle.fc_request.specs.declared.node.Node.{Node}
use Rattle.fc_request.proofs.Nodes.{before, facet_is, statistic_is}
use Rattle.fc_refine.specs.Along.{nodes_in, nodes_along}
use Rattle.fc_refine.specs.AskView.{want_view, wants_view}
use Rattle.fc_refine.specs.CountableRanges.{AreCountable}
use Rattle.fc_refine.specs.declared.ask.Want.{Want}
use Rattle.fc_refine.proofs.ListedValues.{node_is}

-- the nodes from an index on
pub nodes_from : (xs : List Node) (i : ℕ) (n : Node) → i < length xs → n ≡ get_or xs i n → nodes_view (drop i xs) ≡ before (request.node_view n) (nodes_view (drop (i + 1) xs))
nodes_from xs i n within is = ap nodes_view (drop-cons xs i n within ∙ ap (λ x. x ∷ drop (suc i) xs) (sym is) ∙ ap (λ j. n ∷ drop j xs) (sym (add-one i)))

facet_later : (i : ℕ) (p : request.Part) (rest : Nodes) → facet_at (suc i) (before p rest) ≡ facet_at i rest
facet_later i p rest = go p.1
  where
    go : (n : reading.Node) → facet_at (suc i) (before (p.0, n) rest) ≡ facet_at i rest
    go (reading.of_statistic s) = refl
    go (reading.of_facet change kind inner) = refl

-- the nodes nested in the node at an index
pub in_facet : (xs : List Node) (i : ℕ) (n : Node) → i < length xs → n ≡ get_or xs i n → has_buckets (kind_of n) ≡ true → inner_view n ≡ nodes_in i (nodes_view xs)
in_facet [] i n within is h = absurd (omega arith)
in_facet (x ∷ xs) zero n within is h = sym (ap (λ y. target.nodes_in (facet_at zero (before (request.node_view y) (nodes_view xs)))) (sym is) ∙ ap (λ ns. target.nodes_in (facet_at zero ns)) (facet_is n h (nodes_view xs)))
in_facet (x ∷ xs) (suc i) n within is h = in_facet xs i n (omega arith) is h ∙ sym (ap target.nodes_in (facet_later i (request.node_view x) (nodes_view xs)))

pub in_statistic : (xs : List Node) (i : ℕ) (n : Node) → i < length xs → n ≡ get_or xs i n → (s : _) → kind_of n ≡ k.Stat s → no_nodes ≡ nodes_in i (nodes_view xs)
in_statistic [] i n within is s h = absurd (omega arith)
in_statistic (x ∷ xs) zero n within is s h = sym (ap (λ y. target.nodes_in (facet_at zero (before (request.node_view y) (nodes_view xs)))) (sym is) ∙ ap (λ ns. target.nodes_in (facet_at zero ns)) (statistic_is n s h (nodes_view xs)))
in_statistic (x ∷ xs) (suc i) n within is s h = in_statistic xs i n (omega arith) is s h ∙ sym (ap target.nodes_in (facet_later i (request.node_view x) (nodes_view xs)))

pub in_nothing : (xs : List Node) (i : ℕ) → length xs ≤ i → no_nodes ≡ nodes_in i (nodes_view xs)
in_nothing [] i h = refl
in_nothing (x ∷ xs) zero h = absurd (omega arith)
in_nothing (x ∷ xs) (suc i) h = in_nothing xs i (omega arith) ∙ sym (ap target.nodes_in (facet_later i (request.node_view x) (nodes_view xs)))

-- ---- ways

pub along_more : (way : Way) (step : Step) (nodes : Nodes) → nodes_along nodes (way ++ step ∷ []) ≡ nodes_in step.node (nodes_along nodes way)
along_more [] step nodes = refl
along_more (s ∷ way) step nodes = along_more way step (nodes_in s.node nodes)

in_target : (key : Key) (n : ℕ) (t : Target) → target_nodes (target_in key t (facet_at n (target_nodes t))) ≡ nodes_in n (target_nodes t)
in_target key n leads_nowhere = refl
in_target key n (leads_to path nodes) = go (facet_at n nodes)
  where
    go : (o : _) → target_nodes (target_in key (leads_to path nodes) o) ≡ target.nodes_in o
    go None = refl
    go (Some f) = refl

pub target_along : (t : Target) (way : Way) → target_nodes (target_from t way) ≡ nodes_along (target_nodes t) way
target_along t [] = refl
target_along t (s ∷ way) = target_along (target_in s.key t (facet_at s.node (target_nodes t))) way ∙ ap (λ ns. nodes_along ns way) (in_target s.key s.node t)

countable_in : (nodes : Nodes) (n : ℕ) → AreCountable nodes → AreCountable (nodes_in n nodes)
countable_in no_nodes n h = tt
countable_in (statistic name s rest) zero h = tt
countable_in (statistic name s rest) (suc n) h = countable_in rest n h
countable_in (facet f inner rest) zero h = h.1
countable_in (facet f inner rest) (suc n) h = countable_in rest n h.2

pub countable_along : (nodes : Nodes) (way : Way) → AreCountable nodes → AreCountable (nodes_along nodes way)
countable_along nodes [] h = h
countable_along nodes (s ∷ way) h = countable_along (nodes_in s.node nodes) way (countable_in nodes s.node h)

-- ---- lists of buckets

-- a list, and those behind it, beside a facet
pub row_step : (n : Node) (row : PartialNode) (left : List PartialNode) (rest : Nodes) → has_buckets (kind_of n) ≡ true
    → rows_fit offered_bound (rows_view (row ∷ left)) (before (request.node_view n) rest)
    ≡ (is_complete offered_bound (kind_view (kind_of n)) (node_view row) && buckets_fit (kind_view (kind_of n)) (inner_view n) (node_view row) None && insides_fit offered_bound (node_view row) (inner_view n) && rows_fit offered_bound (rows_view left) rest)
row_step n row left rest h = ap (rows_fit offered_bound (rows_view (row ∷ left))) (facet_is n h rest)

pub no_row : (n : Node) (rest : Nodes) → has_buckets (kind_of n) ≡ true → rows_fit offered_bound (rows_view []) (before (request.node_view n) rest) ≡ false
no_row n rest h = ap (rows_fit offered_bound (rows_view [])) (facet_is n h rest)

all_four : (a b c d : Bool) → a ≡ true → b ≡ true → c ≡ true → (a && b && c && d) ≡ d
all_four true true true d h i j = refl
all_four false b c d h i j = absurd (cc h)
all_four true false c d h i j = absurd (cc i)
all_four true true false d h i j = absurd (cc j)

first_fails : (a b c d : Bool) → a ≡ false → (a && b && c && d) ≡ false
first_fails false b c d h = refl
first_fails true b c d h = absurd (cc h)

second_fails : (a b c d : Bool) → b ≡ false → (a && b && c && d) ≡ false
second_fails false b c d h = refl
second_fails true false c d h = refl
second_fails true true c d h = absurd (cc h)

third_fails : (a b c d : Bool) → c ≡ false → (a && b && c && d) ≡ false
third_fails false b c d h = refl
third_fails true false c d h = refl
third_fails true true false d h = refl
third_fails true true true d h = absurd (cc h)

module _ (n : Node) (row : PartialNode) (left rows : List PartialNode) (rest : Nodes) (h : has_buckets (kind_of n) ≡ true) (split : rows ≡ row ∷ left) where
  by_parts : rows_fit offered_bound (rows_view rows) (before (request.node_view n) rest)
      ≡ (is_complete offered_bound (kind_view (kind_of n)) (buckets_view (out-PartialNode row).buckets.items) && buckets_fit (kind_view (kind_of n)) (inner_view n) (buckets_view (out-PartialNode row).buckets.items) None
      && insides_fit offered_bound (buckets_view (out-PartialNode row).buckets.items) (inner_view n) && rows_fit offered_bound (rows_view left) rest)
  by_parts = ap (λ l. rows_fit offered_bound (rows_view l) (before (request.node_view n) rest)) split ∙ row_step n row left rest h
      ∙ ap (λ ps. is_complete offered_bound (kind_view (kind_of n)) ps && buckets_fit (kind_view (kind_of n)) (inner_view n) ps None && insides_fit offered_bound ps (inner_view n) && rows_fit offered_bound (rows_view left) rest) (node_is row)

  pub row_fits : is_complete offered_bound (kind_view (kind_of n)) (buckets_view (out-PartialNode row).buckets.items) ≡ true → buckets_fit (kind_view (kind_of n)) (inner_view n) (buckets_view (out-PartialNode row).buckets.items) None ≡ true
      → insides_fit offered_bound (buckets_view (out-PartialNode row).buckets.items) (inner_view n) ≡ true → rows_fit offered_bound (rows_view rows) (before (request.node_view n) rest) ≡ rows_fit offered_bound (rows_view left) rest
  row_fits a b c = by_parts ∙ all_four _ _ _ (rows_fit offered_bound (rows_view left) rest) a b c

  pub not_complete : is_complete offered_bound (kind_view (kind_of n)) (buckets_view (out-PartialNode row).buckets.items) ≡ false → rows_fit offered_bound (rows_view rows) (before (request.node_view n) rest) ≡ false
  not_complete a = by_parts ∙ first_fails _ _ _ _ a

  pub bad_buckets : buckets_fit (kind_view (kind_of n)) (inner_view n) (buckets_view (out-PartialNode row).buckets.items) None ≡ false → rows_fit offered_bound (rows_view rows) (before (request.node_view n) rest) ≡ false
  bad_buckets b = by_parts ∙ second_fails _ _ _ _ b

  pub bad_insides : insides_fit offered_bound (buckets_view (out-PartialNode row).buckets.items) (inner_view n) ≡ false → rows_fit offered_bound (rows_view rows) (before (request.node_view n) rest) ≡ false
  bad_insides c = by_parts ∙ third_fails (is_complete offered_bound (kind_view (kind_of n)) (buckets_view (out-PartialNode row).buckets.items)) (buckets_fit (kind_view (kind_of n)) (inner_view n) (buckets_view (out-PartialNode row).buckets.items) None) (insides_fit offered_bound (buckets_view (out-PartialNode row).buckets.items) (inner_view n)) (rows_fit offered_bound (rows_view left) rest) c

-- after the last node
pub rows_end : (rows : List PartialNode) → (length rows == 0) ≡ rows_fit offered_bound (rows_view rows) no_nodes
rows_end [] = refl
rows_end (r ∷ rows) = ne_eqb (suc (length rows)) 0 (λ e. omega arith)

pub nothing_is_empty : (bs : List PartialBucket) → not (length bs == 0) ≡ not (is_nothing (buckets_view bs))
nothing_is_empty [] = refl
nothing_is_empty (b ∷ bs) = ap not (ne_eqb (suc (length bs)) 0 (λ e. omega arith))

-- buckets from an index on
pub buckets_from : (xs : List PartialBucket) (i : ℕ) (b : PartialBucket) → i < length xs → b ≡ get_or xs i b → drop i xs ≡ b ∷ drop (i + 1) xs
buckets_from xs i b within is = drop-cons xs i b within ∙ ap (λ x. x ∷ drop (suc i) xs) (sym is) ∙ ap (λ j. b ∷ drop j xs) (sym (add-one i))

bucket_is : (b : PartialBucket) → bucket_view b ≡ record { key = key_view (out-PartialBucket b).key; stats = stats_view (out-PartialBucket b).stats; rows = rows_view (out-PartialBucket b).nodes.items }
bucket_is b = fold_out-PartialBucket Part Partials bucket_step node_step b

-- what is nested in the bucket at an index, and in those behind it
pub inside_step : (xs : List PartialBucket) (i : ℕ) (b : PartialBucket) (nodes : Nodes) → i < length xs → b ≡ get_or xs i b
    → insides_fit offered_bound (buckets_view (drop i xs)) nodes ≡ (rows_fit offered_bound (rows_view (out-PartialBucket b).nodes.items) nodes && insides_fit offered_bound (buckets_view (drop (i + 1) xs)) nodes)
inside_step xs i b nodes within is =
    ap (λ l. insides_fit offered_bound (buckets_view l) nodes) (buckets_from xs i b within is)
    ∙ ap (λ (p : Part). rows_fit offered_bound p.rows nodes && insides_fit offered_bound (buckets_view (drop (i + 1) xs)) nodes) (bucket_is b)

-- ---- top buckets

pub top_is : (key : Key) (nodes : Nodes) (b : PartialBucket) → top_fits offered_bound key nodes (bucket_view b).key (bucket_view b).stats (bucket_view b).rows
    ≡ (same_key key (key_view (out-PartialBucket b).key) && values_fit (stats_of nodes) (map stat_value_view (out-PartialBucket b).stats.values.items) && rows_fit offered_bound (rows_view (out-PartialBucket b).nodes.items) nodes)
top_is key nodes b = ap (λ (p : Part). top_fits offered_bound key nodes p.key p.stats p.rows) (bucket_is b)

pub no_root : (nodes : Nodes) (bs : List PartialBucket) → (length bs ≡ 1 → ⊥) → false ≡ root_fits offered_bound nodes (buckets_view bs)
no_root nodes [] h = refl
no_root nodes (b ∷ []) h = absurd (h (omega arith))
no_root nodes (b ∷ c ∷ bs) h = refl

pub one_root : (nodes : Nodes) (bs : List PartialBucket) (b : PartialBucket) → length bs ≡ 1 → b ≡ get_or bs 0 b
    → root_fits offered_bound nodes (buckets_view bs) ≡ top_fits offered_bound whole nodes (bucket_view b).key (bucket_view b).stats (bucket_view b).rows
one_root nodes [] b h is = absurd (omega arith)
one_root nodes (x ∷ []) b h is = ap (λ y. top_fits offered_bound whole nodes (bucket_view y).key (bucket_view y).stats (bucket_view y).rows) (sym is)
one_root nodes (x ∷ y ∷ bs) b h is = absurd (omega arith)

pub wants_differ : (nodes : Nodes) (ws : List Want) (bs : List PartialBucket) → (length ws ≡ length bs → ⊥) → false ≡ wants_fit offered_bound nodes (wants_view ws) (buckets_view bs)
wants_differ nodes [] [] h = absurd (h refl)
wants_differ nodes [] (b ∷ bs) h = refl
wants_differ nodes (w ∷ ws) [] h = refl
wants_differ nodes (w ∷ ws) (b ∷ bs) h = go (top_fits offered_bound (key_view w.key) (target_nodes (target.target_of nodes (message.way_of (want_view w)))) (bucket_view b).key (bucket_view b).stats (bucket_view b).rows) (wants_differ nodes ws bs (λ e. h (ap suc e)))
  where
    go : (t : Bool) → false ≡ wants_fit offered_bound nodes (wants_view ws) (buckets_view bs) → false ≡ (t && wants_fit offered_bound nodes (wants_view ws) (buckets_view bs))
    go true e = e
    go false e = refl

pub want_step : (nodes : Nodes) (ws : List Want) (bs : List PartialBucket) (i : ℕ) (w : Want) (b : PartialBucket) → i < length ws → w ≡ get_or ws i w → i < length bs → b ≡ get_or bs i b
    → wants_fit offered_bound nodes (wants_view (drop i ws)) (buckets_view (drop i bs))
    ≡ (top_fits offered_bound (key_view w.key) (nodes_along nodes (message.way_of (want_view w))) (bucket_view b).key (bucket_view b).stats (bucket_view b).rows && wants_fit offered_bound nodes (wants_view (drop (i + 1) ws)) (buckets_view (drop (i + 1) bs)))
want_step nodes ws bs i w b lw iw lb ib =
    let first : drop i ws ≡ w ∷ drop (i + 1) ws = drop-cons ws i w lw ∙ ap (λ x. x ∷ drop (suc i) ws) (sym iw) ∙ ap (λ j. w ∷ drop j ws) (sym (add-one i)) in
    ap (λ l. wants_fit offered_bound nodes (wants_view l) (buckets_view (drop i bs))) first
    ∙ ap (λ l. wants_fit offered_bound nodes (wants_view (w ∷ drop (i + 1) ws)) (buckets_view l)) (buckets_from bs i b lb ib)
    ∙ ap (λ ns. top_fits offered_bound (key_view w.key) ns (bucket_view b).key (bucket_view b).stats (bucket_view b).rows && wants_fit offered_bound nodes (wants_view (drop (i + 1) ws)) (buckets_view (drop (i + 1) bs))) (target_along (leads_to at_root nodes) (message.way_of (want_view w)))

pub both_and : (a b c : Bool) → a ≡ true → b ≡ true → (a && b && c) ≡ c
both_and true true c h i = refl
both_and false b c h i = absurd (cc h)
both_and true false c h i = absurd (cc i)
