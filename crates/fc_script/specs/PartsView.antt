-- What a script that was read stands for in the definitions.
use Rattle.std.specs.Prelude.{ℕ, List, [], map, slice_index_or}
use Rattle.std.specs.Arc.{arc_value}
use Rattle.std.specs.List.{enumerate_from}
use Rattle.fc_spec.specs.documents.Document as documents
use Rattle.fc_spec.specs.documents.Val.{Text}
use Rattle.fc_spec.specs.scripts.AskedScripts.{Asked}
use Rattle.fc_spec.specs.scripts.Phases as definition
use Rattle.fc_spec.specs.scripts.ScriptParts.{Parts}
use Rattle.fc_docs.specs.View.{batch_view}
use Rattle.fc_docs.specs.declared.block.Batch.{Batch}
use Rattle.fc_lines.specs.LineView.{asked_view}
use Rattle.fc_script.specs.declared.script.Phase.{Phase}
use Rattle.fc_script.specs.declared.script.Script.{Script}
use Rattle.fc_script.specs.declared.script.Search.{Search}

-- the session of this number; the empty text where there is none
abbrev pub session_at : List Text → ℕ → Text
session_at sessions n = slice_index_or sessions n []

abbrev pub search_view : (sessions : List Text) → (phase : ℕ) → Search → definition.Search Asked
search_view sessions p q = record { phase = p; session = session_at sessions q.session; request = asked_view q.request }

-- a phase with its number
abbrev pub phase_view : (sessions : List Text) → ℕ × Phase → definition.Phase Asked
phase_view sessions n = record { commits = n.1.commits.items; searches = map (search_view sessions n.0) n.1.searches.items }

abbrev pub phases_view : (sessions : List Text) → List Phase → List (definition.Phase Asked)
phases_view sessions phases = map (phase_view sessions) (enumerate_from 0 phases)

-- the batches of a shard
abbrev pub batches_view : List Batch → List documents.Batch
batches_view batches = map batch_view batches

abbrev pub parts_view : Script → Parts Asked
parts_view s = record {
  schema = arc_value s.schema;
  sessions = s.sessions.items;
  batches = map (λ b. batches_view b.items) s.batches.items;
  phases = phases_view s.sessions.items s.phases.items;
}
