-- What gaps stand for in the definitions.
use Rattle.fc_spec.specs.dates.GapTexts as definition
use Rattle.fc_dates.specs.declared.gap.Gap.{Gap}
use Rattle.fc_dates.specs.declared.gap.Unit.{Unit as GapUnit}
use Rattle.fc_dates.specs.declared.gap.Unit.TheVariants as unit

abbrev pub unit_view : GapUnit → definition.Unit
unit_view unit.Months = definition.months
unit_view unit.Days = definition.days
unit_view unit.Seconds = definition.seconds

abbrev pub gap_view : Gap → definition.Gap
gap_view g = record { unit = unit_view g.unit; number = g.number }
