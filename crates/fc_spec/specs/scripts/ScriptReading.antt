-- What script the bytes spell, or its first fault: each line is read against those before it.
use Rattle.std.specs.Prelude.{ℕ, List, [], ◌∷◌, ◌++◌, length, codes, Bool, not, ◌&&◌, nat_le, ok_or, Result, Ok, Err}
use Rattle.std.specs.List.{filter, enumerate_from}
use Rattle.serde_json.specs.Data.{Data}
use Rattle.fc_spec.specs.documents.Val.{Text, same_text}
use Rattle.fc_spec.specs.documents.Document.{Document}
use Rattle.fc_spec.specs.documents.Schema.{Schema}
use Rattle.fc_spec.specs.documents.SchemaReading.{schema_of}
use Rattle.fc_spec.specs.scripts.ScriptFault.{LineFault, not_json, no_schema, bad_schema, field_total, too_many_documents, too_many_sessions, long_line, too_long, too_many_commits, too_many_syncs, ScriptFault}
use Rattle.fc_spec.specs.scripts.ScriptLines.{lines_of, is_blank, json_of}
use Rattle.fc_spec.specs.scripts.Script.{Line, add, delete, commit, sync, asks, Script}
use Rattle.fc_spec.specs.scripts.ScriptTotals.{Limits, script_limits, documents_added, sums_fit, are_few, few_commits, few_sessions, few_syncs}
use Rattle.fc_spec.specs.scripts.JsonObjects.{sole_member}
use Rattle.fc_spec.specs.scripts.LineReading.{line_said}
use Rattle.fc_spec.specs.words.Walks.{◌>>=◌, unless, with_fault}

-- the bytes that a line may have, without its LF, and those that a script may have
abbrev pub line_limit : ℕ
line_limit = 1_048_576

abbrev pub script_limit : ℕ
script_limit = 67_108_864

-- ---- one line

-- the value of a line
abbrev pub value_on : Text → Result Data LineFault
value_on l = do
  _ ← unless (nat_le (length l) line_limit) long_line
  ok_or (json_of l) not_json

-- the schema that the first value is: it stands in an object of one member
abbrev pub schema_said : Data → Result Schema LineFault
schema_said d = do
  found ← ok_or (sole_member d) no_schema
  _ ← unless (same_text found.0 (codes "schema")) no_schema
  ok_or (schema_of found.1) bad_schema

abbrev pub schema_on : Text → Result Schema LineFault
schema_on l = do
  d ← value_on l
  schema_said d

-- all documents that a script adds: the sums and the numbers are within their limits
abbrev pub check_documents : Limits → Schema → List Document → Result (Unit {0}) LineFault
check_documents limits s ds = do
  _ ← unless (sums_fit s ds) field_total
  unless (are_few limits ds) too_many_documents

-- what lines count up to is within the limits; only what their last one counts is looked at
abbrev pub check_last : {A : Type 0} → Limits → Schema → List (Line A) → Line A → Result (Unit {0}) LineFault
check_last limits s lines (add shard block) = check_documents limits s (documents_added lines)
check_last limits s lines (delete shard id) = Ok tt
check_last limits s lines (commit shard) = unless (few_commits s lines) too_many_commits
check_last limits s lines sync = unless (few_syncs lines) too_many_syncs
check_last limits s lines (asks session a) = unless (few_sessions lines) too_many_sessions

-- the earlier lines and the one that a line is behind them
abbrev pub with_line : Limits → Schema → List (Line Data) → Text → Result (List (Line Data)) LineFault
with_line limits s earlier l = do
  d ← value_on l
  now ← line_said s d
  _ ← check_last limits s (earlier ++ now ∷ []) now
  Ok (earlier ++ now ∷ [])

-- ---- all lines

-- a line with its number
abbrev pub Numbered : Type 0
Numbered = ℕ × Text

-- a line that says nothing: a blank one, unless it is too long
abbrev pub is_silent : Text → Bool
is_silent l = is_blank l && nat_le (length l) line_limit

-- the lines that say something, each with its number among all lines, from 1
abbrev pub numbered_lines : List ℕ → List Numbered
numbered_lines bytes = filter (λ l. not (is_silent l.1)) (enumerate_from 1 (lines_of bytes))

-- the fault of a line as the script's
abbrev pub at_line : {A : Type 0} → ℕ → Result A LineFault → Result A ScriptFault
at_line n r = with_fault (λ e. record { line = n; fault = e }) r

-- the earlier lines and those that follow
abbrev pub with_lines : Limits → Schema → List (Line Data) → List Numbered → Result (List (Line Data)) ScriptFault
with_lines limits s earlier [] = Ok earlier
with_lines limits s earlier (l ∷ ls) = do
  now ← at_line l.0 (with_line limits s earlier l.1)
  with_lines limits s now ls

-- the schema and the lines behind it
abbrev pub script_of_lines : Limits → List Numbered → Result (Script Data) ScriptFault
script_of_lines limits [] = Err (record { line = 0; fault = no_schema })
script_of_lines limits (l ∷ ls) = do
  s ← at_line l.0 (schema_on l.1)
  lines ← with_lines limits s [] ls
  Ok (record { schema = s; lines = lines })

-- the script that the bytes spell within these limits, or its first fault
abbrev pub script_of : Limits → List ℕ → Result (Script Data) ScriptFault
script_of limits bytes = do
  _ ← unless (nat_le (length bytes) script_limit) (record { line = 0; fault = too_long })
  script_of_lines limits (numbered_lines bytes)

-- the script that the bytes spell, or its first fault
abbrev pub script : List ℕ → Result (Script Data) ScriptFault
script bytes = script_of script_limits bytes
