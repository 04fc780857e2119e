-- The code's tree, level by level.
use Rattle.std.proofs.Common.{◌≡◌, ℕ, zero, suc, ◌<◌, ◌≤◌, List, [], ◌∷◌, map, length, get_or, Bool, true, false, cond, ◌==◌, Some, refl, sym, ap, ◌∙◌, arith}
use Rattle.std.specs.Prelude.{option_map}
use Rattle.std.specs.BTreeMap.{is_at}
use Rattle.std.specs.Map.{lookup}
use Rattle.std.specs.Ordering.{nat_cmp, is_eq, on}
use Rattle.std.specs.declared.cmp.Ordering.{Ordering}
use Rattle.fc_spec.specs.messages.KeyOrder.{key_cmp}
use Rattle.fc_spec.specs.requests.Buckets as definition
use Rattle.fc_partial.specs.StatsView.{stats_view}
use Rattle.fc_partial.specs.View.{key_view}
use Rattle.fc_partial.specs.declared.key.Key.{Key}
use Rattle.fc_told.specs.Trees as trees
use Rattle.fc_told.specs.Trees.{Branches, no_branches, branches_at, find_branch, teller_of}
use Rattle.fc_told.specs.TreeView.{teller_view, linked, bucket_step, node_step, tree_view, node_view, tree_there}
use Rattle.fc_told.specs.Parts.{tellers_view, branches_view, forks_view}
use Rattle.fc_told.specs.declared.teller.Teller as code
use Rattle.fc_told.specs.declared.tree.ToldBucket.{ToldBucket, out-ToldBucket}
use Rattle.fc_told.specs.declared.tree.ToldBucket.TheFolds.{fold_out-ToldBucket, fold_out-ToldNode}
use Rattle.fc_told.specs.declared.tree.ToldNode.{ToldNode, out-ToldNode}

-- a bucket, and a node
pub bucket_is : (b : ToldBucket) → tree_view b ≡ trees.tree (tellers_view (out-ToldBucket b).tellers.entries) (out-ToldBucket b).count (out-ToldBucket b).sizes.items (forks_view (out-ToldBucket b).nodes.items)
bucket_is b = fold_out-ToldBucket trees.Tree Branches bucket_step node_step b

abbrev see_key : Key × trees.Tree → definition.Key × trees.Tree
see_key e = (key_view e.0, e.1)

abbrev see_tree : Key × ToldBucket → Key × trees.Tree
see_tree e = (e.0, tree_view e.1)

seen : (es : List (Key × ToldBucket)) → map see_key (map see_tree es) ≡ map (λ e. see_key (see_tree e)) es
seen [] = refl
seen (e ∷ es) = ap (λ l. see_key (see_tree e) ∷ l) (seen es)

pub node_is : (n : ToldNode) → node_view n ≡ branches_view (out-ToldNode n).by_key.entries
node_is n = fold_out-ToldNode trees.Tree Branches bucket_step node_step n ∙ ap linked (seen (out-ToldNode n).by_key.entries)

-- the order of the code's keys
abbrev pub code_cmp : Key → Key → Ordering
code_cmp = on key_view key_cmp

-- the node with a number, where it is there and where not
pub node_there : (ns : List ToldNode) (i : ℕ) (n : ToldNode) → i < length ns → n ≡ get_or ns i n → branches_at i (forks_view ns) ≡ node_view n
node_there [] i n within is = absurd (omega arith)
node_there (x ∷ xs) zero n within is = ap node_view (sym is)
node_there (x ∷ xs) (suc i) n within is = node_there xs i n (omega arith) is

pub no_node : (ns : List ToldNode) (i : ℕ) → length ns ≤ i → branches_at i (forks_view ns) ≡ no_branches
no_node [] zero h = refl
no_node [] (suc i) h = refl
no_node (x ∷ xs) zero h = absurd (omega arith)
no_node (x ∷ xs) (suc i) h = no_node xs i (omega arith)

-- the bucket of a key
pub branch_found : (k : Key) (es : List (Key × ToldBucket)) → find_branch (key_view k) (branches_view es) ≡ tree_there (lookup (is_at (code_cmp k)) es)
branch_found k [] = refl
branch_found k (e ∷ es) = go (is_at (code_cmp k) e.0) (branch_found k es)
  where
    go : (b : Bool) → find_branch (key_view k) (branches_view es) ≡ tree_there (lookup (is_at (code_cmp k)) es)
        → cond b (tree_view e.1) (find_branch (key_view k) (branches_view es)) ≡ tree_there (cond b (Some e.1) (lookup (is_at (code_cmp k)) es))
    go true h = refl
    go false h = h

pub child_in : (b : ToldBucket) (i : ℕ) (k : definition.Key) → trees.child (record { node = i; key = k }) (tree_view b) ≡ find_branch k (branches_at i (forks_view (out-ToldBucket b).nodes.items))
child_in b i k = ap (trees.child (record { node = i; key = k })) (bucket_is b)

-- what a shard told
pub same_number : (i j : ℕ) → is_eq (nat_cmp i j) ≡ (j == i)
same_number i j = grind (arith)

pub teller_found : (i : ℕ) (es : List (ℕ × code.Teller)) → option_map (λ t. t.stats) (teller_of i (tellers_view es)) ≡ option_map (λ t. stats_view t.stats) (lookup (is_at (nat_cmp i)) es)
teller_found i [] = refl
teller_found i (e ∷ es) = ap (λ b. option_map (λ t. t.stats) (cond b (Some (teller_view e.0 e.1)) (teller_of i (tellers_view es)))) (sym (same_number i e.0)) ∙ go (is_at (nat_cmp i) e.0) (teller_found i es)
  where
    go : (b : Bool) → option_map (λ t. t.stats) (teller_of i (tellers_view es)) ≡ option_map (λ t. stats_view t.stats) (lookup (is_at (nat_cmp i)) es)
        → option_map (λ t. t.stats) (cond b (Some (teller_view e.0 e.1)) (teller_of i (tellers_view es))) ≡ option_map (λ t. stats_view t.stats) (cond b (Some e.1) (lookup (is_at (nat_cmp i)) es))
    go true h = refl
    go false h = h

-- what a shard listed
pub offered_is : (b : ToldBucket) (n i : ℕ) → trees.offered_at n i (tree_view b) ≡ trees.values_listed i (branches_at n (forks_view (out-ToldBucket b).nodes.items))
offered_is b n i = ap (trees.offered_at n i) (bucket_is b)
