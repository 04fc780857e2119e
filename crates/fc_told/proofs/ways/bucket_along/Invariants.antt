use Rattle.std.proofs.Common.{◌≡◌, drop}
use Rattle.std.specs.Prelude.{option_map}
use Rattle.fc_refine.specs.AskView.{way_view}
use Rattle.fc_told.specs.Trees as trees
use Rattle.fc_told.specs.TreeView.{tree_there, tree_view}
use Rattle.fc_told.proofs.ways.bucket_along.Given as goal

abbrev pub invariant-loop-step : goal.invariant-loop-step
invariant-loop-step l = trees.at (way_view l.way) (tree_view l.told) ≡ trees.at (way_view (drop l.step-index l.way)) (tree_there (option_map (λ bucket. bucket.now) l.there))
