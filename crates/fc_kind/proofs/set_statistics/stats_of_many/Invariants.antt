use Rattle.std.proofs.Common.{◌≡◌, ◌++◌, [], map, take, drop, length}
use Rattle.fc_spec.specs.documents.Sets.{places_on}
use Rattle.fc_spec.specs.requests.Statistics.{value_over}
use Rattle.fc_base.specs.StatisticView.{stat_view}
use Rattle.fc_partial.specs.StatsView.{stats_view}
use Rattle.fc_kind.specs.Columns.{HaveFields}
use Rattle.fc_kind.proofs.set_statistics.stats_of_many.Given as goal

abbrev pub invariant-loop-at : goal.invariant-loop-at
invariant-loop-at l = record {
  so_far : stats_view l.over ≡ record {
    count = length (places_on 0 l.segment.blocks l.docs);
    values = map (λ s. value_over (stat_view s) (places_on 0 l.segment.blocks l.docs)) (take l.at l.stats) ++ map (λ s. value_over (stat_view s) []) (drop l.at l.stats);
  };
  fields : HaveFields l.segment.texts (map stat_view (drop l.at l.stats));
}
