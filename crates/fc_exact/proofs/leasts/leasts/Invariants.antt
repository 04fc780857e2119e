use Rattle.std.proofs.Common.{◌≡◌, ◌++◌, map, drop}
use Rattle.fc_spec.specs.words.Lists.{numbers_below}
use Rattle.fc_exact.specs.ToldFacets.{least_of}
use Rattle.fc_exact.specs.ToldView.{facet_view}
use Rattle.fc_exact.proofs.leasts.leasts.Given as goal

abbrev pub invariant-loop-facet : goal.invariant-loop-facet
invariant-loop-facet l = l.leasts.items ++ map (least_of (numbers_below l.shards)) (map facet_view (drop l.facet-index l.facets)) ≡ map (least_of (numbers_below l.shards)) (map facet_view l.facets)
