use Rattle.std.proofs.Common.{◌≡◌, ◌++◌, map, drop}
use Rattle.fc_spec.specs.requests.Statistics.{stats_over}
use Rattle.fc_base.specs.StatisticView.{stat_view}
use Rattle.fc_partial.specs.View.{stat_value_view}
use Rattle.fc_kind.specs.Columns.{HaveFields}
use Rattle.fc_kind.specs.PlaceAt.{place_at}
use Rattle.fc_kind.proofs.statistics.stats_at.Given as goal

abbrev pub invariant-loop-stat : goal.invariant-loop-stat
invariant-loop-stat l = record {
  so_far : map stat_value_view l.values.items ++ (stats_over (map stat_view (drop l.stat-index l.stats)) (map (place_at l.segment.blocks) l.positions)).values
      ≡ (stats_over (map stat_view l.stats) (map (place_at l.segment.blocks) l.positions)).values;
  fields : HaveFields l.segment.texts (map stat_view (drop l.stat-index l.stats));
}
