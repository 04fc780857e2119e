-- What a run takes from a script.
use Rattle.std.specs.Prelude.{ℕ, List, map, Result, Ok}
use Rattle.fc_spec.specs.documents.Val.{Text}
use Rattle.fc_spec.specs.documents.Document.{Batch}
use Rattle.fc_spec.specs.words.Lists.{numbers_below}
use Rattle.fc_spec.specs.words.Walks.{◌>>=◌}
use Rattle.fc_spec.specs.documents.Schema.{Schema}
use Rattle.fc_spec.specs.scripts.AskedScripts.{Asked, asked_script_of}
use Rattle.fc_spec.specs.scripts.Script.{Script, stream}
use Rattle.fc_spec.specs.scripts.ScriptFault.{ScriptFault}
use Rattle.fc_spec.specs.scripts.ScriptTotals.{Limits, sessions}
use Rattle.fc_spec.specs.scripts.Phases.{Phase, phases}

-- the batches of each shard
abbrev pub batches : {A : Type 0} → Script A → List (List Batch)
batches S = map (stream S.lines) (numbers_below S.schema.shards)

-- the schema, the sessions, the batches and the phases of a script
pub record Parts (A : Type 0) : Type 0 where
  pub schema : Schema
  pub sessions : List Text
  pub batches : List (List Batch)
  pub phases : List (Phase A)

abbrev pub parts_of : {A : Type 0} → Script A → Parts A
parts_of S = record { schema = S.schema; sessions = sessions S.lines; batches = batches S; phases = phases S }

-- the parts of the script that the bytes spell within these limits, with its requests read, or its first fault
abbrev pub parts_spelled : Limits → List ℕ → Result (Parts Asked) ScriptFault
parts_spelled limits bytes = do
  S ← asked_script_of limits bytes
  Ok (parts_of S)
