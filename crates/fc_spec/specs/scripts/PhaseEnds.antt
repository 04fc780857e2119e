-- What searches write over the generations at the ends of their phases. Guide: Commits and Transaction Logs.
use Rattle.std.specs.Prelude.{ℕ, List, Ok, Err}
use Rattle.std.specs.List.{flat_map}
use Rattle.fc_spec.specs.documents.Val.{Text}
use Rattle.fc_spec.specs.documents.World.{World}
use Rattle.fc_spec.specs.scripts.Script.{world}
use Rattle.fc_spec.specs.scripts.Phases.{Search, numbers_at_end, searches}
use Rattle.fc_spec.specs.scripts.AskedScripts.{Asked, AskedScript}
use Rattle.fc_spec.specs.scripts.Lines.{reply_line, error_line}
use Rattle.fc_spec.specs.scripts.Outputs.{Replies}

-- the line of what a session asks over a world of some generations: of a request its reply, of a fault its error
abbrev pub line_in : Replies → World → List ℕ → Text → Asked → Text
line_in reply W g session (Ok r) = reply_line (reply r W) g session
line_in reply W g session (Err f) = error_line f session

-- the line of a search over the generations at the end of its phase
abbrev pub line_at_end : Replies → AskedScript → Search Asked → Text
line_at_end reply S q = line_in reply (world S (numbers_at_end S q.phase)) (numbers_at_end S q.phase) q.session q.request

-- the lines of all searches, in script order
abbrev pub text_at_ends : Replies → AskedScript → Text
text_at_ends reply S = flat_map (line_at_end reply S) (searches S.lines)
