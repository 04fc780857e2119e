-- What is known of a script that was read: of its schema, its batches, its numbers and its requests.
use Rattle.std.specs.Prelude.{◌≡◌, ℕ, ◌<◌, ◌≤◌, List, [], length, map, All, IfOk, slice_index, slice_index_or, Vec}
use Rattle.std.specs.declared.alloc.Global.{Global}
use Rattle.std.specs.Arc.{arc_value}
use Rattle.fc_spec.specs.documents.Document as documents
use Rattle.fc_spec.specs.documents.Operations.{blocks_added}
use Rattle.fc_spec.specs.documents.Schema.{Schema}
use Rattle.fc_spec.specs.documents.Totals.{document_total}
use Rattle.fc_spec.specs.documents.ValidBlocks.{IsBlockOf}
use Rattle.fc_spec.specs.requests.ValidRequests.{IsValidRequest}
use Rattle.fc_spec.specs.scripts.ScriptTotals.{Limits}
use Rattle.fc_base.specs.ValidSchema.{IsValidSchema}
use Rattle.fc_docs.specs.declared.block.Batch.{Batch}
use Rattle.fc_request.specs.RequestView.{request_view, IsRoot}
use Rattle.fc_script.specs.PartsView.{batches_view}
use Rattle.fc_script.specs.declared.script.Phase.{Phase}
use Rattle.fc_script.specs.declared.script.Script.{Script}
use Rattle.fc_script.specs.declared.script.Search.{Search}

-- a number for each list, at most its length
pub record CutLists {X : Type 0} (lists : List (List X)) (numbers : List ℕ) : Type 0 where
  pub count : length numbers ≡ length lists
  pub each : (i : ℕ) → i < length lists → slice_index numbers i ≤ length (slice_index_or lists i [])

-- its session is one of so many, and its request, where it has no fault, is valid for the schema and stands in a root as requests do
pub record IsSoundSearch (s : Schema) (sessions : ℕ) (q : Search) : Type 0 where
  pub session : q.session < sessions
  pub request : IfOk q.request (λ r. IsValidRequest s (request_view r))
  pub root : IfOk q.request (λ r. IsRoot r.root)

-- its numbers of commits are within the batches of their shards
pub record IsSoundPhase {X : Type 0} (s : Schema) (sessions : ℕ) (batches : List (List X)) (p : Phase) : Type 0 where
  pub commits : CutLists batches p.commits.items
  pub searches : All (IsSoundSearch s sessions) p.searches.items

-- the blocks that it adds are of the schema, and their documents are no more than a script may have
pub record IsBatchOf (limits : Limits) (s : Schema) (b : documents.Batch) : Type 0 where
  pub valid : All (IsBlockOf s) (blocks_added b)
  pub few : document_total (blocks_added b) ≤ limits.documents

-- so are the batches of a shard
abbrev pub AreBatchesOf : Limits → Schema → Vec Batch Global → Type 0
AreBatchesOf limits s shard = All (IsBatchOf limits s) (batches_view shard.items)

-- its schema is one, there are batches of it for each shard, and its phases are sound
pub record IsSound (limits : Limits) (s : Script) : Type 0 where
  pub schema : IsValidSchema (arc_value s.schema)
  pub shards : length s.batches.items ≡ (arc_value s.schema).shards
  pub batches : All (AreBatchesOf limits (arc_value s.schema)) s.batches.items
  pub phases : All (IsSoundPhase (arc_value s.schema) (length s.sessions.items) (map (λ b. b.items) s.batches.items)) s.phases.items
