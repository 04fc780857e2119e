-- Where the code stands in the tree.
use Rattle.std.specs.Prelude.{Option, option_map}
use Rattle.std.specs.Borrow.{Bor}
use Rattle.fc_told.specs.Trees.{Tree}
use Rattle.fc_told.specs.TreeView.{tree_there}
use Rattle.fc_told.specs.declared.tree.ToldBucket.{ToldBucket}

-- a bucket that may not be there
abbrev pub tree_at : Option (Bor ToldBucket) → Tree
tree_at place = tree_there (option_map (λ b. b.now) place)
