use Rattle.std.proofs.Common.{◌≡◌, ℕ, ◌++◌}
use Rattle.std.specs.List.Sorted.{IsStrictlySortedBy}
use Rattle.std.specs.Map.{keys_of}
use Rattle.std.specs.Ordering.{nat_cmp}
use Rattle.fc_base.specs.View.{val_view}
use Rattle.fc_told.specs.ListedView.{list_of, listed_once}
use Rattle.fc_told.specs.Parts.{tellers_view}
use Rattle.fc_told.specs.Trees.{is_listed_by, was_listed, teller_of}
use Rattle.fc_told.specs.TreeView.{tree_view}
use Rattle.fc_told.proofs.listing.push_listed.Given as goal

abbrev pub invariant-loop-shard : goal.invariant-loop-shard
invariant-loop-shard l = record {
  lists : (i : ℕ) → list_of i l.by_shard ++ listed_once (was_listed (teller_of i (tellers_view l.shard-iterator))) (val_view l.val)
      ≡ list_of i l.fn.by_shard ++ listed_once (is_listed_by i (tree_view l.bucket)) (val_view l.val);
  sorted : IsStrictlySortedBy nat_cmp (keys_of l.shard-iterator);
}
