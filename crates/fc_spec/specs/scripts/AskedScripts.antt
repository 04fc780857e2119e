-- Scripts with their requests read. Guide: JSON Request API.
use Rattle.std.specs.Prelude.{ℕ, List, map, Result, Ok}
use Rattle.serde_json.specs.Data.{Data}
use Rattle.fc_spec.specs.requests.Request.{Request}
use Rattle.fc_spec.specs.requests.RequestFault.{RequestFault}
use Rattle.fc_spec.specs.requests.RequestReading.{request_of}
use Rattle.fc_spec.specs.scripts.Script.{Line, add, delete, commit, sync, asks, Script}
use Rattle.fc_spec.specs.scripts.ScriptFault.{ScriptFault}
use Rattle.fc_spec.specs.scripts.ScriptReading.{script_of}
use Rattle.fc_spec.specs.scripts.ScriptTotals.{Limits, script_limits}
use Rattle.fc_spec.specs.words.Walks.{◌>>=◌}

-- a line, and a script, with what each search asks changed by `see`
abbrev pub line_asking : {A B : Type 0} → (A → B) → Line A → Line B
line_asking see (add s b) = add s b
line_asking see (delete s id) = delete s id
line_asking see (commit s) = commit s
line_asking see sync = sync
line_asking see (asks session a) = asks session (see a)

abbrev pub asking : {A B : Type 0} → (A → B) → Script A → Script B
asking see S = record { schema = S.schema; lines = map (line_asking see) S.lines }

-- what a search asks: a request, or its fault
abbrev pub Asked : Type 0
Asked = Result Request RequestFault

-- a line, and a script, whose requests were read
abbrev pub AskedLine : Type 0
AskedLine = Line Asked

abbrev pub AskedScript : Type 0
AskedScript = Script Asked

-- the script with each of its requests read
abbrev pub asked : Script Data → AskedScript
asked S = asking (request_of S.schema) S

-- the script that the bytes spell within these limits, with its requests read, or its first fault
abbrev pub asked_script_of : Limits → List ℕ → Result AskedScript ScriptFault
asked_script_of limits bytes = do
  S ← script_of limits bytes
  Ok (asked S)

-- the script that the bytes spell, with its requests read, or its first fault
abbrev pub asked_script : List ℕ → Result AskedScript ScriptFault
asked_script bytes = asked_script_of script_limits bytes
