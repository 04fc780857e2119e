-- What the workers of a phase leave.
use Rattle.std.specs.Prelude.{◌≡◌, ℕ, List, [], ◌∷◌, map, false, slice_set}
use Rattle.std.specs.Arc.{arc_value}
use Rattle.fc_spec.specs.words.Lists.{numbers_below}
use Rattle.fc_spec.specs.scripts.SearchLines.{SearchLine}
use Rattle.fc_store.specs.Charters.{blocks_at}
use Rattle.fc_store.specs.Ends.{Writing}
use Rattle.fc_store.specs.Generated.{Generated}
use Rattle.fc_store.specs.declared.generation.Generation.{Generation}
use Rattle.fc_work.specs.SearchLineView.{line_views}
use Rattle.fc_work.specs.Woven.{lines_in}
use Rattle.fc_work.specs.declared.ended.Ended.{Ended}
use Rattle.fc_work.specs.declared.index_worker.IndexWorker.{IndexWorker}
use Rattle.fc_work.specs.declared.session_worker.SessionWorker.{SessionWorker}
use Rattle.fc_work.specs.declared.worker.Worker.{Worker}
use Rattle.fc_work.specs.declared.worker.Worker.TheVariants.{Index, Session}

-- generations of shards, and for each session its lines
pub record Ends : Type 0 where
  pub generations : List Generated
  pub lines : List (List SearchLine)

abbrev pub generations_of : Ended → List Generated
generations_of e = map (arc_value {X = Generation}) e.generations.items

abbrev pub ends_of : Ended → Ends
ends_of e = record { generations = generations_of e; lines = lines_in e.lines.items }

-- before any worker has ended, from these generations on
abbrev pub nothing : List Generated → (sessions : ℕ) → Ends
nothing starts sessions = record { generations = starts; lines = map (λ c. []) (numbers_below sessions) }

-- the generation that a store has published last
abbrev pub last_of : Writing → Generated
last_of w = record { schema = w.schema; number = w.number; blocks = blocks_at w.charter w.number }

-- once the worker of a shard has ended, and that of a session
abbrev pub with_index : IndexWorker → Ends → Ends
with_index w e = record e { generations = slice_set e.generations w.shard (last_of w.writer) }

abbrev pub with_session : SessionWorker → Ends → Ends
with_session w e = record e { lines = slice_set e.lines w.session (line_views w.lines.items) }

-- once a worker has ended
abbrev pub with_end : Worker → Ends → Ends
with_end (Index w) e = with_index w e
with_end (Session w) e = with_session w e

-- once all have, one after another
abbrev pub with_ends : List Worker → Ends → Ends
with_ends [] e = e
with_ends (w ∷ ws) e = with_ends ws (with_end w e)

-- the worker wants no memory
abbrev pub IsCalm : Worker → Type 0
IsCalm (Index w) = w.wants_memory ≡ false
IsCalm (Session w) = w.wants_memory ≡ false
