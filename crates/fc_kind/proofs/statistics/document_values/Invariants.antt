use Rattle.std.proofs.Common.{◌≡◌, ◌++◌, ◌∷◌, [], map, drop}
use Rattle.fc_spec.specs.requests.Statistics.{stats_over}
use Rattle.fc_base.specs.StatisticView.{stat_view}
use Rattle.fc_partial.specs.View.{stat_value_view}
use Rattle.fc_kind.specs.Columns.{HaveFields}
use Rattle.fc_kind.specs.PlaceAt.{place_at}
use Rattle.fc_kind.proofs.statistics.document_values.Given as goal

abbrev pub invariant-loop-stat : goal.invariant-loop-stat
invariant-loop-stat l = record {
  so_far : map stat_value_view l.values.items ++ (stats_over (map stat_view (drop l.stat-index l.stats)) (place_at l.segment.blocks l.at ∷ [])).values
      ≡ (stats_over (map stat_view l.stats) (place_at l.segment.blocks l.at ∷ [])).values;
  fields : HaveFields l.segment.texts (map stat_view (drop l.stat-index l.stats));
}
