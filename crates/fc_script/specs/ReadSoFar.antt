-- A script as far as it has been read, and what the lines behind make of it.
use Rattle.std.specs.Prelude.{ℕ, List, [], ◌∷◌, ◌++◌, length, nat_le, Result, Ok, Err}
use Rattle.fc_spec.specs.documents.Val.{Text}
use Rattle.fc_spec.specs.documents.Schema.{Schema}
use Rattle.fc_spec.specs.scripts.AskedScripts.{AskedLine, AskedScript}
use Rattle.fc_spec.specs.scripts.ScriptFault.{LineFault, no_schema, too_long, ScriptFault}
use Rattle.fc_spec.specs.scripts.ScriptReading.{Numbered, at_line, numbered_lines, check_last, schema_on, script_limit}
use Rattle.fc_spec.specs.scripts.ScriptTotals.{Limits}
use Rattle.fc_spec.specs.words.Walks.{◌>>=◌, unless}
use Rattle.fc_lines.specs.AskedLines.{asked_on}

-- with the limits that it is held to
pub record ReadSoFar : Type 0 where
  pub limits : Limits
  pub schema : Schema
  pub lines : List AskedLine

-- the script, where the lines end here
abbrev pub script_so_far : ReadSoFar → AskedScript
script_so_far r = record { schema = r.schema; lines = r.lines }

-- with a line behind the others, where what it counts is within its limit
abbrev pub with_asked : ReadSoFar → AskedLine → Result ReadSoFar LineFault
with_asked r l = do
  _ ← check_last r.limits r.schema (r.lines ++ l ∷ []) l
  Ok (record r { lines = r.lines ++ l ∷ [] })

-- with a line of the script, and its request read
abbrev pub with_text : ReadSoFar → Text → Result ReadSoFar LineFault
with_text r t = do
  l ← asked_on r.schema t
  with_asked r l

abbrev pub with_numbered : ReadSoFar → Numbered → Result ReadSoFar ScriptFault
with_numbered r l = at_line l.0 (with_text r l.1)

-- the script with the lines that are left
abbrev pub with_rest : ReadSoFar → List Numbered → Result AskedScript ScriptFault
with_rest r [] = Ok (script_so_far r)
with_rest r (l ∷ ls) = do
  now ← with_numbered r l
  with_rest now ls

-- with some of them
abbrev pub with_all : ReadSoFar → List Numbered → Result ReadSoFar ScriptFault
with_all r [] = Ok r
with_all r (l ∷ ls) = do
  now ← with_numbered r l
  with_all now ls

-- the script of lines
abbrev pub read_from : Limits → List Numbered → Result AskedScript ScriptFault
read_from limits [] = Err (record { line = 0; fault = no_schema })
read_from limits (l ∷ ls) = do
  s ← at_line l.0 (schema_on l.1)
  with_rest (record { limits = limits; schema = s; lines = [] }) ls

-- the script of bytes
abbrev pub read_in : Limits → List ℕ → Result AskedScript ScriptFault
read_in limits bytes = do
  _ ← unless (nat_le (length bytes) script_limit) (record { line = 0; fault = too_long })
  read_from limits (numbered_lines bytes)
