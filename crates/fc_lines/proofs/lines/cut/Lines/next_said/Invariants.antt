use Rattle.std.proofs.Common.{◌≡◌, ◌≤◌, length}
use Rattle.fc_lines.specs.LinesLeft.{lines_left}
use Rattle.fc_lines.proofs.lines.cut.Lines.next_said.Given as goal

abbrev pub invariant-loop-line : goal.invariant-loop-line
invariant-loop-line l = (lines_left l.initial.self ≡ lines_left l.self) × (length l.self.lines ≤ length l.initial.self.lines)

abbrev pub decreases-loop-line : goal.decreases-loop-line
decreases-loop-line l = length l.self.lines
