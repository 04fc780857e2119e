use Rattle.std.proofs.Common.{◌++◌, ◌∷◌, [], ◌∙◌, ap}
use Rattle.std.proofs.lemmas.List.{map-append}
use Rattle.fc_spec.specs.messages.Rounds.{wants_of}
use Rattle.fc_refine.specs.AskView.{wants_view}
use Rattle.fc_coord.specs.View.{all_wants_view}
use Rattle.fc_coord.proofs.ShardLists.{one_more}
use Rattle.fc_coord.proofs.asks.no_wants.Goals as goal

pub loop-shard-preserved : goal.loop-shard-preserved
loop-shard-preserved c =
    ap all_wants_view c.in_ok-push.ensures.items ∙ map-append (λ list. wants_view list.items) c.loop-shard.wants.items _ ∙ (λ j. c.loop-shard.invariant j ++ wants_view (c.new.ensures.items j) ∷ [])
    ∙ one_more (λ i. wants_of i []) c.loop-shard._shard 0
