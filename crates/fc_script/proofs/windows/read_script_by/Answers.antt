use Rattle.std.proofs.Common.{subst}
use Rattle.fc_lines.specs.FaultView.{script_fault_view}
use Rattle.fc_script.specs.LimitsView.{limits_view}
use Rattle.fc_script.specs.Meets.{Meets}
use Rattle.fc_script.specs.ReadView.{HasParts}
use Rattle.fc_script.proofs.Outcomes.{script_read}
use Rattle.fc_script.proofs.windows.read_script_by.Goals as goal

pub returns : goal.returns
returns g c = subst (Meets (HasParts (limits_view c.args.limits)) script_fault_view c.read_in_windows.result) (script_read (limits_view c.args.limits) c.args.bytes.now) c.read_in_windows.ensures
