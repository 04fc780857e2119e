-- What workers do.
use Rattle.std.specs.Prelude.{◌≡◌, ℕ, ◌<◌, ◌≤◌, ◌==◌, List, [], ◌∷◌, length, map, All, IfOk, false, Result, slice_index_or, if◌then◌else◌}
use Rattle.fc_spec.specs.replies.Replied.{replied}
use Rattle.fc_spec.specs.requests.ValidRequests.{IsValidRequest}
use Rattle.fc_spec.specs.scripts.PinnedWorlds.{world_added}
use Rattle.fc_spec.specs.scripts.WorldLimits.{IsWithinLimits}
use Rattle.fc_spec.specs.scripts.SearchLines.{AreSessionLines}
use Rattle.fc_request.specs.RequestView.{IsRoot, request_view}
use Rattle.fc_request.specs.declared.fault.RequestFault.{RequestFault}
use Rattle.fc_request.specs.declared.request.Request.{Request}
use Rattle.fc_lines.specs.LineView.{asked_view}
use Rattle.fc_search.specs.Schemas.{AreSame}
use Rattle.fc_store.specs.Charters.{last_number}
use Rattle.fc_store.specs.Ends.{Pinning}
use Rattle.fc_work.specs.Pinned.{charters_of, least_of, most_of}
use Rattle.fc_work.specs.SearchLineView.{line_views}
use Rattle.fc_work.specs.declared.index_worker.IndexWorker.{IndexWorker}
use Rattle.fc_work.specs.declared.session_worker.SessionWorker.{SessionWorker}
use Rattle.fc_work.specs.declared.worker.Worker.{Worker}
use Rattle.fc_work.specs.declared.worker.Worker.TheVariants.{Index, Session}

-- ---- of a shard

-- the worker's shard and store are the same; where it doesn't want memory, all of its charter is published
pub record IsCommitted (old new : IndexWorker) : Type 0 where
  pub shard : new.shard ≡ old.shard
  pub schema : new.writer.schema ≡ old.writer.schema
  pub charter : new.writer.charter ≡ old.writer.charter
  pub done : new.wants_memory ≡ false → new.writer.number ≡ last_number new.writer.charter

-- ---- of a session

-- there is a reader, all are of one schema, and all that their charters add is within the limits together
pub record AreReady (readers : List Pinning) : Type 0 where
  pub some : 1 ≤ length readers
  pub schema : AreSame (map (λ r. r.schema) readers)
  pub limits : IsWithinLimits (world_added (charters_of readers))

-- what is asked, where it has no fault, is valid for the schema of each reader and stands in a root as requests do
pub record CanAsk (readers : List Pinning) (asked : Result Request RequestFault) : Type 0 where
  pub root : IfOk asked (λ r. IsRoot r.root)
  pub valid : IfOk asked (λ r. All (λ reader. IsValidRequest reader.schema (request_view r)) readers)

-- they are readers of the same stores
pub record AreSameStores (old new : List Pinning) : Type 0 where
  pub schemas : map (λ r. r.schema) new ≡ map (λ r. r.schema) old
  pub charters : charters_of new ≡ charters_of old

-- what the session of this number asks, where these are whose searches a phase has, and what each asks
abbrev pub asked_of : ℕ → (order : List ℕ) → List (Result Request RequestFault) → List (Result Request RequestFault)
asked_of c [] asked = []
asked_of c (s ∷ order) [] = []
asked_of c (s ∷ order) (a ∷ asked) = if s == c then a ∷ asked_of c order asked else asked_of c order asked

-- the worker can answer whatever of this its session asks
pub record IsReady (asked : List (Result Request RequestFault)) (w : SessionWorker) : Type 0 where
  pub readers : AreReady w.readers.items
  pub ask : All (CanAsk w.readers.items) asked

-- the worker's session is the same; where it doesn't want memory, it has a line for all that its session asks
pub record IsAnswered (order : List ℕ) (asked : List (Result Request RequestFault)) (old new : SessionWorker) : Type 0 where
  pub session : new.session ≡ old.session
  pub lines : new.wants_memory ≡ false
      → AreSessionLines replied (charters_of old.readers.items) (most_of old.readers.items) old.name (least_of old.readers.items) (map asked_view (asked_of old.session order asked)) (line_views new.lines.items)

-- ---- of either, where these are whose searches a phase has, and what each asks

module _ (order : List ℕ) (asked : List (Result Request RequestFault)) where
  -- the worker can do its work
  abbrev pub CanWork : Worker → Type 0
  CanWork (Index w) = Unit {0}
  CanWork (Session w) = IsReady asked w

  -- what its work leaves of it
  abbrev pub Worked : Worker → Worker → Type 0
  Worked (Index v) (Index w) = IsCommitted v w
  Worked (Session v) (Session w) = IsAnswered order asked v w
  Worked (Index v) (Session w) = ⊥
  Worked (Session v) (Index w) = ⊥

  -- so does each of a list
  pub record AllWorked (old new : List Worker) : Type 0 where
    pub count : length new ≡ length old
    pub each : (k : ℕ) (d : Worker) → k < length old → Worked (slice_index_or old k d) (slice_index_or new k d)
