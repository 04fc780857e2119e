use Rattle.std.proofs.Common.{◌≡◌, ◌<◌, All, map, length}
use Rattle.fc_spec.specs.messages.Rounds.{wants_of}
use Rattle.fc_spec.specs.words.Lists.{numbers_below}
use Rattle.fc_lacks.specs.LackView.{lack_view}
use Rattle.fc_coord.specs.View.{all_wants_view}
use Rattle.fc_coord.proofs.ShardLists.{joined}
use Rattle.fc_coord.proofs.asks.wants_by_shard.Given as goal

abbrev pub invariant-loop-lack : goal.invariant-loop-lack
invariant-loop-lack l = record {
  wants : joined 0 (all_wants_view l.wants.items) (map lack_view l.lack-iterator.rest.items) ≡ map (λ i. wants_of i (map lack_view l.fn.lacks.items)) (numbers_below l.shards);
  shards : length l.wants.items ≡ l.shards;
  there : All (λ lack. lack.shard < l.shards) l.lack-iterator.rest.items;
}
