use Rattle.std.proofs.Common.{◌≡◌, ◌++◌, map, drop}
use Rattle.fc_spec.specs.words.Lists.{numbers_below}
use Rattle.fc_base.specs.View.{val_view}
use Rattle.fc_exact.specs.ToldFacets.{printed_of}
use Rattle.fc_exact.specs.ToldView.{facet_view}
use Rattle.fc_exact.proofs.tops.tops.Given as goal

abbrev pub invariant-loop-facet : goal.invariant-loop-facet
invariant-loop-facet l = map (λ vals. map val_view vals.items) l.lists.items ++ map (printed_of (numbers_below l.shards)) (map facet_view (drop l.facet-index l.facets)) ≡ map (printed_of (numbers_below l.shards)) (map facet_view l.facets)
