-- What a line after the schema says, with its request read.
use Rattle.std.specs.Prelude.{Result, Ok}
use Rattle.serde_json.specs.Data.{Data}
use Rattle.fc_spec.specs.documents.Schema.{Schema}
use Rattle.fc_spec.specs.documents.Val.{Text}
use Rattle.fc_spec.specs.requests.RequestReading.{request_of}
use Rattle.fc_spec.specs.scripts.AskedScripts.{AskedLine, line_asking}
use Rattle.fc_spec.specs.scripts.LineReading.{line_said}
use Rattle.fc_spec.specs.scripts.Script.{Line}
use Rattle.fc_spec.specs.scripts.ScriptFault.{LineFault}
use Rattle.fc_spec.specs.scripts.ScriptReading.{value_on}
use Rattle.fc_spec.specs.words.Walks.{◌>>=◌}

-- the line with its request read, where it has no fault
abbrev pub asked_line : Schema → Result (Line Data) LineFault → Result AskedLine LineFault
asked_line s said = do
  l ← said
  Ok (line_asking (request_of s) l)

-- what a text says as a line, or its fault
abbrev pub asked_on : Schema → Text → Result AskedLine LineFault
asked_on s t = do
  d ← value_on t
  asked_line s (line_said s d)
