use Rattle.std.proofs.Common.{◌≡◌, map, []}
use Rattle.fc_spec.specs.words.Lists.{numbers_below}
use Rattle.fc_exact.specs.ToldFacets.{told_of_facet}
use Rattle.fc_exact.specs.ToldView.{lists_view}
use Rattle.fc_exact.proofs.by_facet.no_lists.Given as goal

abbrev pub invariant-loop-facet : goal.invariant-loop-facet
invariant-loop-facet l = lists_view l.lists.items ≡ map (told_of_facet []) (numbers_below l._facet)
