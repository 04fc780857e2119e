use Rattle.std.proofs.Common.{[], length}
use Rattle.fc_lines.specs.LinesLeft.{lines_left}
use Rattle.fc_script.specs.LimitsView.{limits_view}
use Rattle.fc_script.proofs.LinesRead.{ReadsOn}
use Rattle.fc_script.proofs.windows.read_windows.Given as goal

abbrev pub invariant-loop-text : goal.invariant-loop-text
invariant-loop-text g l = ReadsOn (record { limits = limits_view l.fn.limits; schema = l.fn.schema; lines = [] }) (lines_left l.initial.lines) l.reading (lines_left l.lines)

abbrev pub decreases-loop-text : goal.decreases-loop-text
decreases-loop-text g l = length (lines_left l.lines)
