use Rattle.std.proofs.Common.{◌≡◌, ◌++◌, map, take}
use Rattle.fc_refine.specs.AskView.{wants_view}
use Rattle.fc_exact.specs.ToldFacets.{wants_in}
use Rattle.fc_exact.specs.ToldView.{value_view}
use Rattle.fc_exact.proofs.wants.push_wants.Given as goal

abbrev pub invariant-loop-value : goal.invariant-loop-value
invariant-loop-value l = wants_view l.wants.items ≡ wants_view l.fn.wants.items ++ wants_in l.shard l.facet (map value_view (take l.value-index l.values))
