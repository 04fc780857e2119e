-- The stores of a phase once they are opened.
use Rattle.std.specs.Prelude.{◌≡◌, ℕ, ◌<◌, ◌-◌, Bool, not, ◌==◌, List, length, All, Option, None, Some, slice_index_or}
use Rattle.std.specs.List.{filter_map}
use Rattle.fc_store.specs.Charters.{IsBatchOf, KeepsLimits, last_number}
use Rattle.fc_store.specs.Ends.{Pinning, Writing}
use Rattle.fc_store.specs.Generated.{Generated}
use Rattle.fc_work.specs.declared.index_worker.IndexWorker.{IndexWorker}
use Rattle.fc_work.specs.declared.session_worker.SessionWorker.{SessionWorker}
use Rattle.fc_work.specs.declared.stores.Opening.{Opening}
use Rattle.fc_work.specs.declared.worker.Worker.{Worker}
use Rattle.fc_work.specs.declared.worker.Worker.TheVariants.{Index, Session}

-- the generation that a store begins with
abbrev pub start_in : Opening → Generated
start_in o = o.charter.start

-- segments can be built of the charter's batches; the blocks that it starts with and those that they add are within the limits
pub record CanOpen (o : Opening) : Type 0 where
  pub batches : All (IsBatchOf (start_in o).schema) o.charter.later
  pub limits : KeepsLimits o.charter

-- each is of the shard at its place
abbrev pub AreNumbered : List Opening → Type 0
AreNumbered openings = (k : ℕ) (d : Opening) → k < length openings → (slice_index_or openings k d).shard ≡ k

-- what its writer knows, and what each of its readers does
abbrev pub writing_in : Opening → Writing
writing_in o = record { schema = (start_in o).schema; charter = o.charter; number = (start_in o).number }

abbrev pub pinning_in : Opening → Pinning
pinning_in o = record { schema = (start_in o).schema; charter = o.charter; least = (start_in o).number }

-- the store has something left to publish
abbrev pub leaves_some : Writing → Bool
leaves_some w = not (last_number w.charter - w.number == 0)

abbrev pub commits_some : Opening → Bool
commits_some o = leaves_some (writing_in o)

abbrev pub has_commits : IndexWorker → Bool
has_commits w = leaves_some w.writer

-- the workers of shards among workers, and those of sessions
abbrev pub index_in : Worker → Option IndexWorker
index_in (Index w) = Some w
index_in (Session w) = None

abbrev pub session_in : Worker → Option SessionWorker
session_in (Index w) = None
session_in (Session w) = Some w

abbrev pub indexes_in : List Worker → List IndexWorker
indexes_in workers = filter_map index_in workers

abbrev pub sessions_in : List Worker → List SessionWorker
sessions_in workers = filter_map session_in workers

-- a shard, and what its writer knows
pub record Place : Type 0 where
  pub shard : ℕ
  pub writing : Writing

abbrev pub place_in : IndexWorker → Place
place_in w = record { shard = w.shard; writing = w.writer }

abbrev pub place_for : Opening → Place
place_for o = record { shard = o.shard; writing = writing_in o }
