use Rattle.std.proofs.Common.{All, subst}
use Rattle.fc_lines.specs.FaultView.{script_fault_view}
use Rattle.fc_window.specs.Slots.{HasSaid}
use Rattle.fc_script.specs.Meets.{Meets}
use Rattle.fc_script.specs.ReadSoFar.{with_all}
use Rattle.fc_script.specs.ReadView.{HasRead}
use Rattle.fc_script.proofs.windows.read_window.Goals as goal

pub with_window-requires : goal.with_window-requires
with_window-requires g c = subst (λ s. All (HasSaid s) c.read_ahead.new.window) c.schema.ensures c.read_ahead.ensures.said

pub returns : goal.returns
returns g c = λ S has. subst (λ ls. Meets HasRead script_fault_view c.with_window.result (with_all S ls)) c.read_ahead.ensures.lines (c.with_window.ensures S has)
