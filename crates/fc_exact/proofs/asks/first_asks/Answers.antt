use Rattle.std.proofs.Common.{◌++◌, ◌∷◌, [], Some, ◌∙◌, ap}
use Rattle.std.specs.Prelude.{option_map}
use Rattle.std.proofs.lemmas.List.{map-append}
use Rattle.fc_spec.specs.messages.TopRounds.{exact_first}
use Rattle.fc_exact.specs.View.{ask_view, asks_view}
use Rattle.fc_exact.proofs.Shards.{one_more}
use Rattle.fc_exact.proofs.asks.first_asks.Goals as goal

pub loop-shard-preserved : goal.loop-shard-preserved
loop-shard-preserved c =
    ap asks_view c.in_ok-push.ensures.items ∙ map-append (option_map ask_view) c.loop-shard.asks.items _ ∙ ap (λ ys. ys ++ Some exact_first ∷ []) c.loop-shard.invariant
    ∙ one_more (λ _. Some exact_first) c.loop-shard._shard 0
