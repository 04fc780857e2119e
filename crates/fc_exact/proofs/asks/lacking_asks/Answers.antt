use Rattle.std.proofs.Common.{◌++◌, ◌∷◌, [], ◌∙◌, map, ap}
use Rattle.std.specs.Prelude.{option_map}
use Rattle.std.proofs.lemmas.List.{map-append}
use Rattle.fc_exact.specs.State.{ask_for}
use Rattle.fc_exact.specs.ToldFacets.{wants_among}
use Rattle.fc_exact.specs.ToldView.{facet_view}
use Rattle.fc_exact.specs.View.{ask_view, asks_view}
use Rattle.fc_exact.proofs.Shards.{one_shard_more}
use Rattle.fc_exact.proofs.asks.lacking_asks.Goals as goal

pub loop-shard-preserved : goal.loop-shard-preserved
loop-shard-preserved c =
    let own = c.in_ok-ask_for.ensures ∙ ap ask_for c.in_ok-wants.ensures in
    ap asks_view c.in_ok-push.ensures.items ∙ map-append (option_map ask_view) c.loop-shard.asks.items _ ∙ (λ j. c.loop-shard.invariant j ++ own j ∷ [])
    ∙ one_shard_more (λ i. ask_for (wants_among i 0 (map facet_view c.args.facets.now))) c.loop-shard.shard
