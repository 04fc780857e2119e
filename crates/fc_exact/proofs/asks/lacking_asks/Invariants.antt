use Rattle.std.proofs.Common.{◌≡◌, map}
use Rattle.fc_spec.specs.words.Lists.{numbers_below}
use Rattle.fc_exact.specs.State.{ask_for}
use Rattle.fc_exact.specs.ToldFacets.{wants_among}
use Rattle.fc_exact.specs.ToldView.{facet_view}
use Rattle.fc_exact.specs.View.{asks_view}
use Rattle.fc_exact.proofs.asks.lacking_asks.Given as goal

abbrev pub invariant-loop-shard : goal.invariant-loop-shard
invariant-loop-shard l = asks_view l.asks.items ≡ map (λ i. ask_for (wants_among i 0 (map facet_view l.facets))) (numbers_below l.shard)
