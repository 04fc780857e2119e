-- Told buckets put into the tree, level by level.
use Rattle.std.proofs.Common.{◌≡◌, ℕ, zero, suc, ◌+◌, ◌<◌, ◌≤◌, List, [], ◌∷◌, ◌++◌, length, get_or, drop, map, true, cond, Some, None, unwrap_or, IsTrue, BTreeMap, Vec, refl, sym, ap, subst, ◌∙◌, ◌&&◌, arith}
use Rattle.std.specs.Prelude.{slice_set}
use Rattle.std.specs.BTreeMap.{insert_entry, is_at}
use Rattle.std.specs.List.Sorted.{IsStrictlySortedBy}
use Rattle.std.specs.Map.{lookup, keys_of, set_value}
use Rattle.std.specs.Ordering.{nat_cmp, match_ordering, is_eq}
use Rattle.std.specs.declared.cmp.Ordering.{Ordering}
use Rattle.std.specs.declared.cmp.Ordering.TheVariants.{Less, Equal, Greater}
use Rattle.std.proofs.lemmas.Map.{lookup-none}
use Rattle.std.proofs.lemmas.Map.Entries.{none_below_head}
use Rattle.std.proofs.lemmas.Map.Keys.{sorted_tail}
use Rattle.fc_spec.specs.requests.Request.{Nodes, statistic}
use Rattle.fc_spec.specs.messages.Message.{Rows, no_rows, row, Step, Way, way_of}
use Rattle.fc_facet.specs.declared.kind.Kind.TheVariants as k
use Rattle.fc_partial.specs.BucketView.{Part, bucket_view, buckets_view, node_view, rows_view}
use Rattle.fc_partial.specs.KeyLaws.{keys_total}
use Rattle.fc_partial.specs.StatsView.{stats_view}
use Rattle.fc_partial.specs.View.{key_view, stat_value_view}
use Rattle.fc_partial.specs.declared.bucket.PartialBucket.{PartialBucket, out-PartialBucket}
use Rattle.fc_partial.specs.declared.bucket.PartialNode.{PartialNode}
use Rattle.fc_partial.specs.declared.key.Key.{Key}
use Rattle.fc_request.specs.FacetNode.{has_buckets, kind_of}
use Rattle.fc_request.specs.NodeView.{nodes_view}
use Rattle.fc_request.specs.declared.node.Node.{Node, out-Node}
use Rattle.fc_request.proofs.Nodes.{before, facet_is, statistic_is}
use Rattle.fc_refine.proofs.Shapes.{nodes_from, target_along}
use Rattle.std.specs.declared.alloc.Global.{Global}
use Rattle.std.proofs.lemmas.Bool.{false≢true}
use Rattle.std.proofs.lemmas.Option.{same_Some}
use Rattle.fc_spec.specs.laws.LacksLaws.{has_key, names_keys}
use Rattle.fc_spec.specs.messages.Held.{told_wants}
use Rattle.fc_spec.specs.messages.Message as message
use Rattle.fc_spec.specs.messages.Target as target
use Rattle.fc_spec.specs.messages.Target.{facet_at, leads_to}
use Rattle.fc_spec.specs.requests.Paths.{at_root}
use Rattle.fc_spec.specs.requests.RequestReading as reading
use Rattle.fc_request.specs.NodeView as request
use Rattle.fc_refine.specs.Along.{nodes_along}
use Rattle.fc_refine.specs.AskView.{want_view, wants_view}
use Rattle.fc_refine.specs.declared.ask.Want.{Want}
use Rattle.fc_refine.specs.Named.{NamesKeys}
use Rattle.fc_told.specs.Adding.{all_added, bucket_added, changed_at, with_teller, sum_of, sizes_added, changed_branch, changed_fork, numbers_added, forks_of, rows_added, partials_added}
use Rattle.fc_told.specs.Parts.{tellers_view, branches_view, forks_view}
use Rattle.fc_told.specs.Trees as trees
use Rattle.fc_told.specs.Trees.{Tree, Forks, no_forks, fork, Branches, no_branches, branch, nothing}
use Rattle.fc_told.specs.TreeView as tree
use Rattle.fc_told.specs.TreeView.{teller_view, tree_view}
use Rattle.fc_told.specs.declared.teller.Teller as code
use Rattle.fc_told.specs.declared.tree.ToldBucket.{ToldBucket, out-ToldBucket, roll-ToldBucket, out-roll-ToldBucket}
use Rattle.fc_told.specs.declared.tree.ToldBucket.TheOpen.{ToldBucket-F}
use Rattle.fc_told.specs.declared.tree.ToldNode.{ToldNode, out-ToldNode, roll-ToldNode, out-roll-ToldNode}
use Rattle.fc_told.proofs.Fits.{part_is}
use Rattle.fc_told.proofs.Levels.{bucket_is, node_is, code_cmp}

-- ---- tellers

same_shard : (i j : ℕ) → nat_cmp i j ≡ Equal → j ≡ i
same_shard i j h = grind (arith, h)

pub teller_put : (es : List (ℕ × code.Teller)) (i : ℕ) (t : code.Teller) → tellers_view (insert_entry nat_cmp es i t) ≡ with_teller (teller_view i t) (tellers_view es)
teller_put [] i t = refl
teller_put (e ∷ es) i t = go (nat_cmp i e.0) refl (teller_put es i t)
  where
    go : (o : Ordering) → nat_cmp i e.0 ≡ o → tellers_view (insert_entry nat_cmp es i t) ≡ with_teller (teller_view i t) (tellers_view es)
        → tellers_view (match_ordering o ((i, t) ∷ e ∷ es) ((e.0, t) ∷ es) (e ∷ insert_entry nat_cmp es i t))
        ≡ match_ordering o (teller_view i t ∷ teller_view e.0 e.1 ∷ tellers_view es) (teller_view i t ∷ tellers_view es) (teller_view e.0 e.1 ∷ with_teller (teller_view i t) (tellers_view es))
    go Less h ih = refl
    go Equal h ih = ap (λ j. teller_view j t ∷ tellers_view es) (same_shard i e.0 h)
    go Greater h ih = ap (λ l. teller_view e.0 e.1 ∷ l) ih

-- a bucket with one more teller
pub numbers_put : (b u : ToldBucket) (i : ℕ) (t : code.Teller) (gs : Forks) → (out-ToldBucket u).tellers.entries ≡ insert_entry nat_cmp (out-ToldBucket b).tellers.entries i t
    → (out-ToldBucket u).count ≡ sum_of (out-ToldBucket b).count t.stats.count → (out-ToldBucket u).sizes.items ≡ sizes_added (out-ToldBucket b).sizes.items (map stat_value_view t.stats.values.items)
    → forks_view (out-ToldBucket u).nodes.items ≡ gs → tree_view u ≡ numbers_added (teller_view i t) (tree_view b) gs
numbers_put b u i t gs tellers count sizes nodes =
    bucket_is u
    ∙ (λ j. trees.tree ((ap tellers_view tellers ∙ teller_put (out-ToldBucket b).tellers.entries i t) j) (count j) (sizes j) (nodes j))
    ∙ sym (ap (λ T. numbers_added (teller_view i t) T gs) (bucket_is b))

pub forks_are : (b : ToldBucket) → forks_of (tree_view b) ≡ forks_view (out-ToldBucket b).nodes.items
forks_are b = ap forks_of (bucket_is b)

-- ---- nodes

pub room_made : (f : Branches → Branches) (ns : List ToldNode) (n : ToldNode) (i : ℕ) → length ns ≤ i → tree.node_view n ≡ no_branches → changed_fork i f (forks_view (ns ++ n ∷ [])) ≡ changed_fork i f (forks_view ns)
room_made f [] n zero l e = ap (λ bs. fork (f bs) no_forks) e
room_made f [] n (suc i) l e = ap (λ bs. fork bs (changed_fork i f no_forks)) e
room_made f (m ∷ ns) n zero l e = absurd (omega arith)
room_made f (m ∷ ns) n (suc i) l e = ap (fork (tree.node_view m)) (room_made f ns n i (omega arith) e)

pub node_put : (f : Branches → Branches) (ns : List ToldNode) (i : ℕ) (w d : ToldNode) → i < length ns → tree.node_view w ≡ f (tree.node_view (get_or ns i d)) → forks_view (slice_set ns i w) ≡ changed_fork i f (forks_view ns)
node_put f [] i w d l e = absurd (omega arith)
node_put f (n ∷ ns) zero w d l e = ap (λ bs. fork bs (forks_view ns)) e
node_put f (n ∷ ns) (suc i) w d l e = ap (fork (tree.node_view n)) (node_put f ns i w d (omega arith) e)

-- ---- buckets of a node

branch_put : (f : Tree → Tree) (es : List (Key × ToldBucket)) (key : Key) (w new : ToldBucket) → IsStrictlySortedBy code_cmp (keys_of es) → tree_view new ≡ nothing → tree_view w ≡ f (tree_view (unwrap_or (lookup (is_at (code_cmp key)) es) new))
    → branches_view (insert_entry code_cmp es key w) ≡ changed_branch (key_view key) f (branches_view es)
branch_put f [] key w new sorted none is = ap (λ T. branch (key_view key) T no_branches) (is ∙ ap f none)
branch_put f (e ∷ es) key w new sorted none is = go (code_cmp key e.0) refl (branch_put f es key w new (sorted_tail code_cmp e.0 (keys_of es) sorted) none)
  where
    go : (o : Ordering) → code_cmp key e.0 ≡ o → (tree_view w ≡ f (tree_view (unwrap_or (lookup (is_at (code_cmp key)) es) new)) → branches_view (insert_entry code_cmp es key w) ≡ changed_branch (key_view key) f (branches_view es))
        → branches_view (match_ordering o ((key, w) ∷ e ∷ es) ((e.0, w) ∷ es) (e ∷ insert_entry code_cmp es key w))
        ≡ match_ordering o (branch (key_view key) (f nothing) (branch (key_view e.0) (tree_view e.1) (branches_view es))) (branch (key_view e.0) (f (tree_view e.1)) (branches_view es)) (branch (key_view e.0) (tree_view e.1) (changed_branch (key_view key) f (branches_view es)))
    go Less h ih =
        let absent : lookup (is_at (code_cmp key)) (e ∷ es) ≡ None = lookup-none (is_at (code_cmp key)) (e ∷ es) (none_below_head keys_total key e es sorted h) in
        ap (λ T. branch (key_view key) T (branches_view (e ∷ es))) (is ∙ ap (λ o. f (tree_view (unwrap_or o new))) absent ∙ ap f none)
    go Equal h ih = ap (λ T. branch (key_view e.0) T (branches_view es)) (is ∙ ap (λ b. f (tree_view (unwrap_or (cond (is_eq b) (Some e.1) (lookup (is_at (code_cmp key)) es)) new))) h)
    go Greater h ih = ap (branch (key_view e.0) (tree_view e.1)) (ih (is ∙ ap (λ b. f (tree_view (unwrap_or (cond (is_eq b) (Some e.1) (lookup (is_at (code_cmp key)) es)) new))) h))

-- a node with the bucket of a key written anew
pub bucket_written : (f : Tree → Tree) (n : ToldNode) (m : BTreeMap Key ToldBucket) (written : ToldBucket → BTreeMap Key ToldBucket) (key : Key) (there w new : ToldBucket) → IsStrictlySortedBy code_cmp (keys_of (out-ToldNode n).by_key.entries)
    → tree_view new ≡ nothing → ((v : ToldBucket) → (written v).entries ≡ insert_entry code_cmp (out-ToldNode n).by_key.entries key v) → there ≡ unwrap_or (lookup (is_at (code_cmp key)) (out-ToldNode n).by_key.entries) new
    → tree_view w ≡ f (tree_view there) → m ≡ written w → tree.node_view (roll-ToldNode (record { by_key = m })) ≡ changed_branch (key_view key) f (tree.node_view n)
bucket_written f n m written key there w new sorted none writes found is made =
    let es = (out-ToldNode n).by_key.entries in
    node_is (roll-ToldNode (record { by_key = m })) ∙ ap (λ r. branches_view r.by_key.entries) (out-roll-ToldNode (record { by_key = m }))
    ∙ ap (λ (x : BTreeMap Key ToldBucket). branches_view x.entries) made ∙ ap branches_view (writes w)
    ∙ branch_put f es key w new sorted none (is ∙ ap (λ b. f (tree_view b)) found) ∙ ap (changed_branch (key_view key) f) (sym (node_is n))

branch_set : (f : Tree → Tree) (es : List (Key × ToldBucket)) (key : Key) (v w : ToldBucket) → IsStrictlySortedBy code_cmp (keys_of es) → tree_view w ≡ f (tree_view v) → lookup (is_at (code_cmp key)) es ≡ Some v
    → branches_view (set_value (is_at (code_cmp key)) es w) ≡ changed_branch (key_view key) f (branches_view es)
branch_set f [] key v w sorted is there = absurd (cc)
branch_set f (e ∷ es) key v w sorted is there = go (code_cmp key e.0) refl there (branch_set f es key v w (sorted_tail code_cmp e.0 (keys_of es) sorted) is)
  where
    go : (o : Ordering) → code_cmp key e.0 ≡ o → cond (is_eq o) (Some e.1) (lookup (is_at (code_cmp key)) es) ≡ Some v
        → (lookup (is_at (code_cmp key)) es ≡ Some v → branches_view (set_value (is_at (code_cmp key)) es w) ≡ changed_branch (key_view key) f (branches_view es))
        → branches_view (cond (is_eq o) ((e.0, w) ∷ es) (e ∷ set_value (is_at (code_cmp key)) es w))
        ≡ match_ordering o (branch (key_view key) (f nothing) (branch (key_view e.0) (tree_view e.1) (branches_view es))) (branch (key_view e.0) (f (tree_view e.1)) (branches_view es)) (branch (key_view e.0) (tree_view e.1) (changed_branch (key_view key) f (branches_view es)))
    go Less h found ih =
        let absent : lookup (is_at (code_cmp key)) (e ∷ es) ≡ None = lookup-none (is_at (code_cmp key)) (e ∷ es) (none_below_head keys_total key e es sorted h) in
        let none : lookup (is_at (code_cmp key)) es ≡ None = sym (ap (λ o. cond (is_eq o) (Some e.1) (lookup (is_at (code_cmp key)) es)) h) ∙ absent in
        absurd (cc)
    go Equal h found ih = ap (λ T. branch (key_view e.0) T (branches_view es)) (is ∙ ap (λ b. f (tree_view b)) (sym (same_Some e.1 v found)))
    go Greater h found ih = ap (branch (key_view e.0) (tree_view e.1)) (ih found)

-- a node with a map of other entries
node_with : (f : Tree → Tree) (n : ToldNode) (m : BTreeMap Key ToldBucket) (key : Key) (es : List (Key × ToldBucket)) → m.entries ≡ es → branches_view es ≡ changed_branch (key_view key) f (branches_view (out-ToldNode n).by_key.entries)
    → tree.node_view (roll-ToldNode (record { by_key = m })) ≡ changed_branch (key_view key) f (tree.node_view n)
node_with f n m key es writes is =
    node_is (roll-ToldNode (record { by_key = m })) ∙ ap (λ r. branches_view r.by_key.entries) (out-roll-ToldNode (record { by_key = m }))
    ∙ ap branches_view writes ∙ is ∙ ap (changed_branch (key_view key) f) (sym (node_is n))

module _ (f : Tree → Tree) (n : ToldNode) (m : BTreeMap Key ToldBucket) (key : Key) (w : ToldBucket) (sorted : IsStrictlySortedBy code_cmp (keys_of (out-ToldNode n).by_key.entries)) where
  -- where the bucket is there
  pub bucket_changed : (v : ToldBucket) → lookup (is_at (code_cmp key)) (out-ToldNode n).by_key.entries ≡ Some v → tree_view w ≡ f (tree_view v) → m.entries ≡ set_value (is_at (code_cmp key)) (out-ToldNode n).by_key.entries w
      → tree.node_view (roll-ToldNode (record { by_key = m })) ≡ changed_branch (key_view key) f (tree.node_view n)
  bucket_changed v there is writes = node_with f n m key _ writes (branch_set f (out-ToldNode n).by_key.entries key v w sorted is there)

  -- where it is not
  pub bucket_put : (new : ToldBucket) → tree_view new ≡ nothing → lookup (is_at (code_cmp key)) (out-ToldNode n).by_key.entries ≡ None → tree_view w ≡ f (tree_view new) → m.entries ≡ insert_entry code_cmp (out-ToldNode n).by_key.entries key w
      → tree.node_view (roll-ToldNode (record { by_key = m })) ≡ changed_branch (key_view key) f (tree.node_view n)
  bucket_put new none absent is writes =
      node_with f n m key _ writes (branch_put f (out-ToldNode n).by_key.entries key w new sorted none (is ∙ ap (λ o. f (tree_view (unwrap_or o new))) (sym absent)))

-- ---- rows

suc_is : (n : ℕ) → suc n ≡ n + 1
suc_is n = omega arith

stat_passed : (s : ℕ) (n : ℕ) (rows : Rows) (name : List ℕ) (of : _) (rest : Nodes) (fs : Forks) → rows_added s n rows (statistic name of rest) fs ≡ rows_added s (suc n) rows rest fs
stat_passed s n no_rows name of rest fs = refl
stat_passed s n (row ps rows) name of rest fs = refl

module _ (s : ℕ) (xs : List Node) (i : ℕ) (n : Node) (within : i < length xs) (is : n ≡ get_or xs i n) (fs : Forks) where
  pub statistic_added : (rows : List PartialNode) (of : _) → kind_of n ≡ k.Stat of → rows_added s i (rows_view rows) (nodes_view (drop i xs)) fs ≡ rows_added s (i + 1) (rows_view rows) (nodes_view (drop (i + 1) xs)) fs
  statistic_added rows of kind =
      let rest = nodes_view (drop (i + 1) xs) in
      ap (λ ns. rows_added s i (rows_view rows) ns fs) (nodes_from xs i n within is ∙ statistic_is n of kind rest)
      ∙ stat_passed s i (rows_view rows) _ _ rest fs ∙ ap (λ m. rows_added s m (rows_view rows) rest fs) (suc_is i)

  pub row_added : (rows left : List PartialNode) (r : PartialNode) (inner : List Node) (gs : Forks) → has_buckets (kind_of n) ≡ true → rows ≡ r ∷ left → inner ≡ (out-Node n).nodes.items
      → gs ≡ changed_fork i (partials_added s (node_view r) (nodes_view inner)) fs → rows_added s i (rows_view rows) (nodes_view (drop i xs)) fs ≡ rows_added s (i + 1) (rows_view left) (nodes_view (drop (i + 1) xs)) gs
  row_added rows left r inner gs h split inside put =
      let rest = nodes_view (drop (i + 1) xs) in
      ap (λ l. rows_added s i (rows_view l) (nodes_view (drop i xs)) fs) split
      ∙ ap (λ ns. rows_added s i (rows_view (r ∷ left)) ns fs) (nodes_from xs i n within is ∙ facet_is n h rest)
      ∙ ap (λ l. rows_added s (suc i) (rows_view left) rest (changed_fork i (partials_added s (node_view r) (nodes_view l)) fs)) (sym inside)
      ∙ ap (λ g. rows_added s (suc i) (rows_view left) rest g) (sym put) ∙ ap (λ m. rows_added s m (rows_view left) rest gs) (suc_is i)

-- behind the last node, and with no row
pub rows_end : (s n i : ℕ) (rows : List PartialNode) (xs : List Node) (fs : Forks) → drop i xs ≡ [] → rows_added s n (rows_view rows) (nodes_view (drop i xs)) fs ≡ fs
rows_end s n i rows xs fs end = ap (λ l. rows_added s n (rows_view rows) (nodes_view l) fs) end ∙ go rows
  where
    go : (rows : List PartialNode) → rows_added s n (rows_view rows) (nodes_view []) fs ≡ fs
    go [] = refl
    go (r ∷ rows) = refl

-- one bucket of a node, and those behind it
pub partial_added : (s : ℕ) (b : PartialBucket) (bs : List PartialBucket) (N : Nodes) (B : Branches) → partials_added s (buckets_view (b ∷ bs)) N B ≡ partials_added s (buckets_view bs) N (partials_added s (buckets_view (b ∷ [])) N B)
partial_added s b bs N B = refl

pub listed_is : (s : ℕ) (b : PartialBucket) (N : Nodes) (B : Branches) → partials_added s (buckets_view (b ∷ [])) N B
    ≡ changed_branch (key_view (out-PartialBucket b).key) (λ T. numbers_added (record { shard = s; stats = stats_view (out-PartialBucket b).stats; listed = true }) T (rows_added s 0 (rows_view (out-PartialBucket b).nodes.items) N (forks_of T))) B
listed_is s b N B = ap (λ (p : Part). changed_branch p.key (λ T. numbers_added (record { shard = s; stats = p.stats; listed = true }) T (rows_added s 0 p.rows N (forks_of T))) B) (part_is b)

-- ---- ways

abbrev forks_with : (Forks → Forks) → Tree → Tree
forks_with h (trees.tree ts c zs fs) = trees.tree ts c zs (h fs)

step_is : (s : Step) (way : Way) (f : Tree → Tree) (T : Tree) → forks_with (changed_fork s.node (changed_branch s.key (changed_at way f))) T ≡ changed_at (s ∷ way) f T
step_is s way f (trees.tree ts c zs fs) = refl

-- a bucket with the branch of a step written anew
pub step_put : (s : Step) (way : Way) (f : Tree → Tree) (b : ToldBucket) (mid : List ToldNode) (v : Vec ToldNode Global) (w d : ToldNode) → s.node < length mid
    → ((g : Branches → Branches) → changed_fork s.node g (forks_view mid) ≡ changed_fork s.node g (forks_view (out-ToldBucket b).nodes.items)) → d ≡ get_or mid s.node d
    → tree.node_view w ≡ changed_branch s.key (changed_at way f) (tree.node_view d) → v.items ≡ slice_set mid s.node w
    → tree_view (roll-ToldBucket (record { tellers = (out-ToldBucket b).tellers; count = (out-ToldBucket b).count; sizes = (out-ToldBucket b).sizes; nodes = v })) ≡ changed_at (s ∷ way) f (tree_view b)
step_put s way f b mid v w d within same is put set =
    let g : Branches → Branches = changed_branch s.key (changed_at way f) in
    let o = out-ToldBucket b in
    let r : ToldBucket-F ToldBucket ToldNode = record { tellers = o.tellers; count = o.count; sizes = o.sizes; nodes = v } in
    let nodes : forks_view v.items ≡ changed_fork s.node g (forks_view o.nodes.items) = ap forks_view set ∙ node_put g mid s.node w d within (put ∙ ap (λ x. g (tree.node_view x)) is) ∙ same g in
    bucket_is (roll-ToldBucket r) ∙ ap (λ x. trees.tree (tellers_view x.tellers.entries) x.count x.sizes.items (forks_view x.nodes.items)) (out-roll-ToldBucket r)
    ∙ ap (trees.tree (tellers_view o.tellers.entries) o.count o.sizes.items) nodes
    ∙ ap (forks_with (changed_fork s.node g)) (sym (bucket_is b)) ∙ step_is s way f (tree_view b)

facet_later : (i : ℕ) (p : request.Part) (rest : Nodes) → facet_at (suc i) (before p rest) ≡ facet_at i rest
facet_later i p rest = go p.1
  where
    go : (n : reading.Node) → facet_at (suc i) (before (p.0, n) rest) ≡ facet_at i rest
    go (reading.of_statistic s) = refl
    go (reading.of_facet change kind inner) = refl

no_facet : (xs : List Node) (i : ℕ) → length xs ≤ i → facet_at i (nodes_view xs) ≡ None
no_facet [] i l = refl
no_facet (x ∷ xs) zero l = absurd (omega arith)
no_facet (x ∷ xs) (suc i) l = facet_later i (request.node_view x) (nodes_view xs) ∙ no_facet xs i (omega arith)

-- a way that names keys begins with a node that is there
pub names_within : (xs : List Node) (way rest : Way) (s : Step) → way ≡ s ∷ rest → IsTrue (names_keys (nodes_view xs) way) → length xs ≤ s.node → ⊥
names_within xs way rest s split names l =
    let first = ap (names_keys (nodes_view xs)) (sym split) in
    let none = ap (λ o. has_key o s.key && names_keys (target.nodes_in o) rest) (no_facet xs s.node l) in
    false≢true (sym none ∙ first ∙ names)

-- ---- wants

pub want_added : (N : Nodes) (s : ℕ) (T now : Tree) (ws later : List Want) (w : Want) (bs left : List PartialBucket) (b : PartialBucket) → ws ≡ w ∷ later → bs ≡ b ∷ left
    → now ≡ changed_at (way_of (want_view w)) (bucket_added s (stats_view (out-PartialBucket b).stats) (rows_view (out-PartialBucket b).nodes.items) (nodes_along N (way_of (want_view w)))) T
    → all_added (told_wants N s (wants_view ws) (buckets_view bs)) T ≡ all_added (told_wants N s (wants_view later) (buckets_view left)) now
want_added N s T now ws later w bs left b first one is =
    let way = way_of (want_view w) in
    ap (λ l. all_added (told_wants N s (wants_view l) (buckets_view bs)) T) first
    ∙ ap (λ l. all_added (told_wants N s (wants_view (w ∷ later)) (buckets_view l)) T) one
    ∙ ap (λ ns. all_added (told_wants N s (wants_view later) (buckets_view left)) (changed_at way (bucket_added s (bucket_view b).stats (bucket_view b).rows ns) T)) (target_along (leads_to at_root N) way)
    ∙ ap (λ (p : Part). all_added (told_wants N s (wants_view later) (buckets_view left)) (changed_at way (bucket_added s p.stats p.rows (nodes_along N way)) T)) (part_is b)
    ∙ ap (all_added (told_wants N s (wants_view later) (buckets_view left))) (sym is)

pub names_later : (N : Nodes) (ws later : List Want) (w : Want) → ws ≡ w ∷ later → NamesKeys N (message.more (wants_view ws)) → NamesKeys N (message.more (wants_view later))
names_later N ws later w first names = (subst (λ l. NamesKeys N (message.more (wants_view l))) first names).1
