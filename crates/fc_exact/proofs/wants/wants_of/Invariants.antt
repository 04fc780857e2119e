use Rattle.std.proofs.Common.{◌≡◌, ◌++◌, map, drop}
use Rattle.fc_refine.specs.AskView.{wants_view}
use Rattle.fc_exact.specs.ToldFacets.{wants_among}
use Rattle.fc_exact.specs.ToldView.{facet_view}
use Rattle.fc_exact.proofs.wants.wants_of.Given as goal

abbrev pub invariant-loop-number : goal.invariant-loop-number
invariant-loop-number l = wants_view l.wants.items ++ wants_among l.shard l.number (map facet_view (drop l.number l.facets)) ≡ wants_among l.shard 0 (map facet_view l.facets)
