use Rattle.std.proofs.Common.{◌≡◌, ◌++◌, map}
use Rattle.fc_refine.specs.Grouped.{map_view}
use Rattle.fc_refine.proofs.Growing.{seen}
use Rattle.fc_exact.specs.ToldView.{count_view, value_view}
use Rattle.fc_exact.proofs.values.values_of.Given as goal

abbrev pub invariant-loop-val : goal.invariant-loop-val
invariant-loop-val l = map value_view l.values.items ++ seen count_view l.val-iterator ≡ map_view count_view l.fn.by_value
