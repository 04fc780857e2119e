-- What a reader has read, and what it makes of that in the end.
use Rattle.std.specs.Prelude.{◌≡◌, List, length, All}
use Rattle.std.specs.List.{filter_map}
use Rattle.fc_spec.specs.documents.Schema.{Schema}
use Rattle.fc_spec.specs.documents.Val.{Text}
use Rattle.fc_spec.specs.documents.ValidBlocks.{IsBlockOf}
use Rattle.fc_spec.specs.scripts.AskedScripts.{AskedScript}
use Rattle.fc_spec.specs.scripts.ScriptParts.{parts_of}
use Rattle.fc_spec.specs.scripts.ScriptTotals.{Limits, added, sessions}
use Rattle.fc_spec.specs.scripts.ValidScripts.{IsWithin}
use Rattle.fc_script.specs.DocumentCounts.{AreDocumentCounts}
use Rattle.fc_script.specs.Gathered as definition
use Rattle.fc_script.specs.GatheredView.{gathered_view, IsSoundSoFar}
use Rattle.fc_script.specs.PartsView.{parts_view}
use Rattle.fc_script.specs.ReadSoFar.{ReadSoFar}
use Rattle.fc_script.specs.SoundScripts.{IsSound}
use Rattle.fc_script.specs.declared.counts.documents.DocumentCounts.{DocumentCounts}
use Rattle.fc_script.specs.declared.gather.gathered.Gathered.{Gathered}
use Rattle.fc_script.specs.declared.script.Script.{Script}
use Rattle.fc_script.specs.declared.script_reader.ScriptReader.{ScriptReader}

-- the schema is theirs, the counts are those of the lines' blocks, the sessions are theirs, and what was gathered is what the lines add up to
pub record Holds (s : Schema) (counts : DocumentCounts) (names : List Text) (g : Gathered) (S : ReadSoFar) : Type 0 where
  pub schema : s ≡ S.schema
  pub blocks : All (IsBlockOf S.schema) (filter_map added S.lines)
  pub documents : AreDocumentCounts S.limits (length S.schema.fields) (filter_map added S.lines) counts
  pub sessions : names ≡ sessions S.lines
  pub gathered : gathered_view names g ≡ definition.gathered S.schema S.lines
  pub sound : IsSoundSoFar S.schema (length names) g

-- what a reader has read
abbrev pub HasRead : ScriptReader → ReadSoFar → Type 0
HasRead r S = Holds r.schema r.documents r.sessions.items r.gathered S

-- its parts are those of the definition's script, which is within the limits, and it is sound
pub record HasParts (limits : Limits) (script : Script) (S : AskedScript) : Type 0 where
  pub parts : parts_view script ≡ parts_of S
  pub within : IsWithin limits S
  pub sound : IsSound limits script
