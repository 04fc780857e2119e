-- What the parts of the code's tree stand for.
use Rattle.std.specs.Prelude.{ℕ, List, map}
use Rattle.fc_partial.specs.View.{key_view}
use Rattle.fc_partial.specs.declared.key.Key.{Key}
use Rattle.fc_told.specs.Trees.{Teller, Forks, Branches}
use Rattle.fc_told.specs.TreeView.{teller_view, linked, linked_forks, tree_view, node_view}
use Rattle.fc_told.specs.declared.teller.Teller as code
use Rattle.fc_told.specs.declared.tree.ToldBucket.{ToldBucket}
use Rattle.fc_told.specs.declared.tree.ToldNode.{ToldNode}

-- who told a bucket, by their numbers
abbrev pub tellers_view : List (ℕ × code.Teller) → List Teller
tellers_view es = map (λ e. teller_view e.0 e.1) es

-- the buckets of a node by their keys
abbrev pub branches_view : List (Key × ToldBucket) → Branches
branches_view es = linked (map (λ e. (key_view e.0, tree_view e.1)) es)

-- the nodes of a bucket
abbrev pub forks_view : List ToldNode → Forks
forks_view ns = linked_forks (map node_view ns)
