use Rattle.std.proofs.Common.{◌≡◌, map, Some}
use Rattle.fc_spec.specs.messages.TopRounds.{exact_least}
use Rattle.fc_spec.specs.words.Lists.{numbers_below}
use Rattle.fc_exact.specs.View.{asks_view}
use Rattle.fc_exact.proofs.asks.least_asks.Given as goal

abbrev pub invariant-loop-shard : goal.invariant-loop-shard
invariant-loop-shard l = asks_view l.asks.items ≡ map (λ _. Some (exact_least l.leasts)) (numbers_below l._shard)
