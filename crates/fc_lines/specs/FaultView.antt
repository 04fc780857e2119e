-- What the faults of scripts stand for in the definitions.
use Rattle.std.specs.Prelude.{ℕ}
use Rattle.fc_spec.specs.scripts.ScriptFault as fault
use Rattle.fc_base.specs.declared.error.Refusal.{Refusal}
use Rattle.fc_base.specs.declared.error.Refusal.TheVariants as refusal
use Rattle.fc_docs.specs.View.{fault_view}
use Rattle.fc_lines.specs.declared.fault.LineFault.TheVariants as kind
use Rattle.fc_lines.specs.declared.fault.LineFault.{LineFault}
use Rattle.fc_lines.specs.declared.fault.ScriptFault.{ScriptFault}

abbrev pub line_fault_view : LineFault → fault.LineFault
line_fault_view kind.NotJson = fault.not_json
line_fault_view kind.NoSchema = fault.no_schema
line_fault_view kind.UnknownLine = fault.unknown_line
line_fault_view kind.BadSchema = fault.bad_schema
line_fault_view kind.BadShard = fault.bad_shard
line_fault_view (kind.BadDocument d) = fault.bad_document (fault_view d)
line_fault_view kind.FieldTotal = fault.field_total
line_fault_view kind.TooManyDocuments = fault.too_many_documents
line_fault_view kind.TooManySessions = fault.too_many_sessions
line_fault_view kind.LongLine = fault.long_line
line_fault_view kind.TooLong = fault.too_long
line_fault_view kind.TooManyCommits = fault.too_many_commits
line_fault_view kind.TooManySyncs = fault.too_many_syncs

abbrev pub script_fault_view : ScriptFault → fault.ScriptFault
script_fault_view f = record { line = f.line; fault = line_fault_view f.fault }

-- a line's refusal, with its number
abbrev pub refusal_at : ℕ → Refusal LineFault → Refusal ScriptFault
refusal_at n refusal.Memory = refusal.Memory
refusal_at n (refusal.Fault e) = refusal.Fault (record { line = n; fault = e })
