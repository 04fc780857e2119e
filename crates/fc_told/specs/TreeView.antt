-- What the code's tree stands for.
use Rattle.std.specs.Prelude.{ℕ, List, [], ◌∷◌, map, Option, option_map, unwrap_or}
use Rattle.fc_spec.specs.requests.Buckets.{Key}
use Rattle.fc_partial.specs.View.{key_view}
use Rattle.fc_partial.specs.StatsView.{stats_view}
use Rattle.fc_told.specs.Trees as trees
use Rattle.fc_told.specs.Trees.{Teller, Forks, no_forks, fork, Branches, no_branches, branch, nothing}
use Rattle.fc_told.specs.declared.teller.Teller as code
use Rattle.fc_told.specs.declared.tree.ToldBucket.{ToldBucket}
use Rattle.fc_told.specs.declared.tree.ToldBucket.TheOpen.{ToldBucket-F, ToldNode-F}
use Rattle.fc_told.specs.declared.tree.ToldBucket.TheFolds.{fold-ToldBucket, fold-ToldNode}
use Rattle.fc_told.specs.declared.tree.ToldNode.{ToldNode}

abbrev pub teller_view : ℕ → code.Teller → Teller
teller_view i t = record { shard = i; stats = stats_view t.stats; listed = t.listed }

-- branches and forks, in their order
abbrev pub linked : List (Key × trees.Tree) → Branches
linked [] = no_branches
linked (e ∷ es) = branch e.0 e.1 (linked es)

abbrev pub linked_forks : List Branches → Forks
linked_forks [] = no_forks
linked_forks (b ∷ bs) = fork b (linked_forks bs)

abbrev pub bucket_step : ToldBucket-F trees.Tree Branches → trees.Tree
bucket_step b = trees.tree (map (λ e. teller_view e.0 e.1) b.tellers.entries) b.count b.sizes.items (linked_forks b.nodes.items)

abbrev pub node_step : ToldNode-F trees.Tree Branches → Branches
node_step n = linked (map (λ e. (key_view e.0, e.1)) n.by_key.entries)

abbrev pub tree_view : ToldBucket → trees.Tree
tree_view = fold-ToldBucket trees.Tree Branches bucket_step node_step

abbrev pub node_view : ToldNode → Branches
node_view = fold-ToldNode trees.Tree Branches bucket_step node_step

-- a bucket that may not be there
abbrev pub tree_there : Option ToldBucket → trees.Tree
tree_there o = unwrap_or (option_map tree_view o) nothing
