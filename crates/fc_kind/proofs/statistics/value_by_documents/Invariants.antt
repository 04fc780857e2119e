use Rattle.std.proofs.Common.{◌≡◌, map, take}
use Rattle.fc_spec.specs.requests.Statistics.{value_over}
use Rattle.fc_base.specs.StatisticView.{stat_view}
use Rattle.fc_partial.specs.View.{stat_value_view}
use Rattle.fc_kind.specs.PlaceAt.{place_at}
use Rattle.fc_kind.proofs.statistics.value_by_documents.Given as goal

abbrev pub invariant-loop-at : goal.invariant-loop-at
invariant-loop-at l = stat_value_view l.value ≡ value_over (stat_view l.stat) (map (place_at l.segment.blocks) (take l.at-index l.positions))
