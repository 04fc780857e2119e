use Rattle.std.proofs.Common.{◌≡◌, map, []}
use Rattle.fc_spec.specs.messages.Rounds.{wants_of}
use Rattle.fc_spec.specs.words.Lists.{numbers_below}
use Rattle.fc_coord.specs.View.{all_wants_view}
use Rattle.fc_coord.proofs.asks.no_wants.Given as goal

abbrev pub invariant-loop-shard : goal.invariant-loop-shard
invariant-loop-shard l = all_wants_view l.wants.items ≡ map (λ i. wants_of i []) (numbers_below l._shard)
