use Rattle.std.proofs.Common.{map, drop}
use Rattle.fc_base.specs.StatisticView.{stat_view}
use Rattle.fc_kind.specs.Columns.{HaveFields}
use Rattle.fc_terms.proofs.repeated.read_several.Given as goal

abbrev pub invariant-loop-stat : goal.invariant-loop-stat
invariant-loop-stat l = HaveFields l.segment.texts (map stat_view (drop l.stat-index l.stats))
