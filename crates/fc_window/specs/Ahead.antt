-- What was read of a line ahead of its turn.
use Rattle.std.specs.Prelude.{◌≡◌, ◌<◌, ℕ, Option, Some, None, Result, Ok, Err, IfSome}
use Rattle.fc_spec.specs.documents.Schema.{Schema}
use Rattle.fc_spec.specs.documents.ValidBlocks.{IsBlockOf}
use Rattle.fc_spec.specs.scripts.AskedScripts.{AskedLine}
use Rattle.fc_spec.specs.scripts.Script.{add}
use Rattle.fc_spec.specs.scripts.ScriptFault as fault
use Rattle.fc_base.specs.declared.error.Refusal.{Refusal}
use Rattle.fc_base.specs.declared.error.Refusal.TheVariants.{Memory, Fault}
use Rattle.fc_docs.specs.View.{block_view}
use Rattle.fc_docs.specs.declared.block.Block.{Block}
use Rattle.fc_lines.specs.FaultView.{line_fault_view}
use Rattle.fc_lines.specs.declared.fault.LineFault.{LineFault}

-- the shard and the block that it adds, its fault, want of memory, or nothing
abbrev pub IsAhead : Result AskedLine fault.LineFault → Result (Option (ℕ × Block)) (Refusal LineFault) → Type 0
IsAhead said (Ok (Some added)) = said ≡ Ok (add added.0 (block_view added.1))
IsAhead said (Ok None) = Unit {0}
IsAhead said (Err Memory) = Unit {0}
IsAhead said (Err (Fault f)) = said ≡ Err (line_fault_view f)

-- the shard is one of the schema's, and the block is valid for it
abbrev pub IsPlaced : Schema → Option (ℕ × Block) → Type 0
IsPlaced s found = IfSome found (λ added. (added.0 < s.shards) × IsBlockOf s (block_view added.1))
