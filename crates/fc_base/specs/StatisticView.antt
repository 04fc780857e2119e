-- What statistics stand for in the definitions.
use Rattle.fc_spec.specs.requests.Request as definition
use Rattle.fc_base.specs.declared.statistic.StatKind.{StatKind}
use Rattle.fc_base.specs.declared.statistic.StatKind.TheVariants as kind
use Rattle.fc_base.specs.declared.statistic.Stat.{Stat}

abbrev pub stat_kind_view : StatKind → definition.StatKind
stat_kind_view kind.Sum = definition.sum
stat_kind_view kind.Min = definition.min
stat_kind_view kind.Max = definition.max
stat_kind_view kind.CountVals = definition.countvals
stat_kind_view kind.Missing = definition.missing

abbrev pub stat_view : Stat → definition.Stat
stat_view s = record { of = stat_kind_view s.of; field = s.field.0 }
