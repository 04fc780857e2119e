use Rattle.std.proofs.Common.{◌≡◌, map, Some}
use Rattle.fc_spec.specs.messages.Message.{first}
use Rattle.fc_spec.specs.words.Lists.{numbers_below}
use Rattle.fc_coord.specs.View.{asks_view}
use Rattle.fc_coord.proofs.asks.first_asks.Given as goal

abbrev pub invariant-loop-shard : goal.invariant-loop-shard
invariant-loop-shard l = asks_view l.asks.items ≡ map (λ _. Some first) (numbers_below l._shard)
