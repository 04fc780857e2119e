use Rattle.std.proofs.Common.{◌++◌, ◌∷◌, [], Some, ◌∙◌, ap}
use Rattle.std.specs.Prelude.{option_map}
use Rattle.std.proofs.lemmas.List.{map-append}
use Rattle.fc_spec.specs.messages.TopRounds.{exact_least}
use Rattle.fc_exact.specs.View.{ask_view, asks_view}
use Rattle.fc_exact.proofs.Shards.{one_more}
use Rattle.fc_exact.proofs.asks.least_asks.Goals as goal

pub loop-shard-preserved : goal.loop-shard-preserved
loop-shard-preserved c =
    ap asks_view c.in_ok-push.ensures.items ∙ map-append (option_map ask_view) c.loop-shard.asks.items _ ∙ (λ j. c.loop-shard.invariant j ++ Some (exact_least (c.in_ok-own.ensures.items j)) ∷ [])
    ∙ one_more (λ _. Some (exact_least c.args.leasts.now)) c.loop-shard._shard 0
