use Rattle.std.proofs.Common.{◌≡◌, ℕ, ◌++◌}
use Rattle.fc_told.specs.ListedView.{list_of}
use Rattle.fc_told.specs.Parts.{branches_view}
use Rattle.fc_told.specs.Trees.{values_listed}
use Rattle.fc_told.specs.TreeView.{node_view}
use Rattle.fc_told.proofs.listing.values_by_shard.Given as goal

abbrev pub invariant-loop-key : goal.invariant-loop-key
invariant-loop-key l = (i : ℕ) → list_of i l.by_shard ++ values_listed i (branches_view l.key-iterator) ≡ values_listed i (node_view l.told)
