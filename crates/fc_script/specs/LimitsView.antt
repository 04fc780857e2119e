-- What limits stand for in the definitions.
use Rattle.fc_spec.specs.scripts.ScriptTotals as totals
use Rattle.fc_script.specs.declared.limits.Limits.{Limits}

abbrev pub limits_view : Limits → totals.Limits
limits_view m = record { documents = m.documents; values = m.values }
