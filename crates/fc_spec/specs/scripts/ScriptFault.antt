-- The faults of a script, with their numbers and names; no fault has the number 7.
use Rattle.std.specs.Prelude.{ℕ, codes}
use Rattle.fc_spec.specs.documents.Val.{Text}
use Rattle.fc_spec.specs.documents.DocFault.{DocFault}

-- a fault of a script: of a line, or of no line
pub data LineFault : Type 0 where
  not_json : LineFault
  no_schema : LineFault
  unknown_line : LineFault
  bad_schema : LineFault
  bad_shard : LineFault
  bad_document : DocFault → LineFault
  field_total : LineFault
  too_many_documents : LineFault
  too_many_sessions : LineFault
  long_line : LineFault
  too_long : LineFault
  too_many_commits : LineFault
  too_many_syncs : LineFault

-- its number
abbrev pub line_fault_number : LineFault → ℕ
line_fault_number not_json = 1
line_fault_number no_schema = 2
line_fault_number unknown_line = 3
line_fault_number bad_schema = 4
line_fault_number bad_shard = 5
line_fault_number (bad_document d) = 6
line_fault_number field_total = 8
line_fault_number too_many_documents = 9
line_fault_number too_many_sessions = 10
line_fault_number long_line = 11
line_fault_number too_long = 12
line_fault_number too_many_commits = 13
line_fault_number too_many_syncs = 14

-- its name
abbrev pub line_fault_name : LineFault → Text
line_fault_name not_json = codes "not-json"
line_fault_name no_schema = codes "no-schema"
line_fault_name unknown_line = codes "unknown-line"
line_fault_name bad_schema = codes "bad-schema"
line_fault_name bad_shard = codes "bad-shard"
line_fault_name (bad_document d) = codes "bad-document"
line_fault_name field_total = codes "field-total"
line_fault_name too_many_documents = codes "too-many-documents"
line_fault_name too_many_sessions = codes "too-many-sessions"
line_fault_name long_line = codes "long-line"
line_fault_name too_long = codes "too-long"
line_fault_name too_many_commits = codes "too-many-commits"
line_fault_name too_many_syncs = codes "too-many-syncs"

-- a script's fault, and its line; line 0 where it has none
pub record ScriptFault : Type 0 where
  pub line : ℕ
  pub fault : LineFault
