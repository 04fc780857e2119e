use Rattle.std.proofs.Common.{◌++◌, ◌∷◌, [], Some, ◌∙◌, ap}
use Rattle.std.specs.Prelude.{option_map}
use Rattle.std.proofs.lemmas.List.{map-append}
use Rattle.fc_spec.specs.messages.Message.{first}
use Rattle.fc_refine.specs.AskView.{ask_view}
use Rattle.fc_coord.specs.View.{asks_view}
use Rattle.fc_coord.proofs.ShardLists.{one_more}
use Rattle.fc_coord.proofs.asks.first_asks.Goals as goal

pub loop-shard-preserved : goal.loop-shard-preserved
loop-shard-preserved c =
    ap asks_view c.in_ok-push.ensures.items ∙ map-append (option_map ask_view) c.loop-shard.asks.items _ ∙ ap (λ ys. ys ++ Some first ∷ []) c.loop-shard.invariant
    ∙ one_more (λ _. Some first) c.loop-shard._shard 0
