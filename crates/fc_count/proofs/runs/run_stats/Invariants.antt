use Rattle.std.proofs.Common.{◌≡◌, ◌∷◌, List, length, map, take}
use Rattle.fc_spec.specs.documents.World.{Place}
use Rattle.fc_spec.specs.requests.Statistics.{stats_over}
use Rattle.fc_base.specs.StatisticView.{stat_view}
use Rattle.fc_partial.specs.StatsView.{stats_view}
use Rattle.fc_count.specs.Rows.{rows_of, values_of_place}
use Rattle.fc_count.proofs.runs.run_stats.Given as goal

abbrev pub invariant-loop-entry : goal.invariant-loop-entry
invariant-loop-entry l = record {
  over : (places : List Place) → rows_of (length l.stats) l.rows (l.first ∷ take l.entry-index l.others) ≡ map (values_of_place (map stat_view l.stats)) places → stats_view l.over ≡ stats_over (map stat_view l.stats) places;
  one : l.one.count ≡ 1;
}
