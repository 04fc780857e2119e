use Rattle.std.proofs.Common.{◌≡◌, ◌≤◌, ◌++◌, All, length, map}
use Rattle.fc_lines.specs.LinesLeft.{lines_left}
use Rattle.fc_window.specs.Slots.{IsUnread, line_of}
use Rattle.fc_window.proofs.window.fill.Given as goal

abbrev pub invariant-loop-lines : goal.invariant-loop-lines
invariant-loop-lines l = record {
  lines : map line_of l.window.items ++ lines_left l.lines ≡ map line_of l.initial.window.items ++ lines_left l.initial.lines;
  unread : All IsUnread l.window.items;
  few : length l.window.items ≤ 4096;
  shorter : length (lines_left l.lines) ≤ length (lines_left l.initial.lines);
}

abbrev pub decreases-loop-lines : goal.decreases-loop-lines
decreases-loop-lines l = length (lines_left l.lines)
