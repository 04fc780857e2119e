use Rattle.std.proofs.Common.{◌≡◌, map, take}
use Rattle.fc_spec.specs.words.Lists.{numbers_below}
use Rattle.fc_exact.specs.ToldFacets.{told_of_facet}
use Rattle.fc_exact.specs.ToldView.{lists_view}
use Rattle.fc_exact.specs.View.{told_view}
use Rattle.fc_exact.proofs.by_facet.told_by_facet.Given as goal

abbrev pub invariant-loop-one : goal.invariant-loop-one
invariant-loop-one l = lists_view l.lists.items ≡ map (told_of_facet (map told_view (take l.one-index l.told))) (numbers_below l.facets)
