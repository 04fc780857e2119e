use Rattle.std.proofs.Common.{map, ap, ◌∙◌}
use Rattle.fc_spec.specs.messages.Rounds.{wants_of}
use Rattle.fc_spec.specs.words.Lists.{numbers_below}
use Rattle.fc_lacks.specs.LackView.{lack_view}
use Rattle.fc_coord.specs.State as state
use Rattle.fc_coord.proofs.ShardLists.{each_then}
use Rattle.fc_coord.proofs.asks.asks_for.Goals as goal

pub returns : goal.returns
returns c = c.in_ok-asks.ensures ∙ ap (map state.ask_for) c.in_ok-wants.ensures ∙ each_then (λ i. wants_of i (map lack_view c.args.lacks.items)) state.ask_for (numbers_below c.args.shards)
