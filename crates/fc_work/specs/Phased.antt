-- A phase with searches.
use Rattle.std.specs.Prelude.{◌≡◌, ℕ, ◌<◌, List, ◌++◌, length, map, Option, Result, Vec}
use Rattle.std.specs.List.{filter}
use Rattle.std.specs.declared.alloc.Global.{Global}
use Rattle.fc_spec.specs.documents.Val.{Text}
use Rattle.fc_spec.specs.messages.Trace as definition
use Rattle.fc_spec.specs.scripts.SearchLines.{SearchLine, sent_for, text_of}
use Rattle.fc_hooks.specs.declared.round_probe.Sent.{Sent}
use Rattle.fc_request.specs.declared.fault.RequestFault.{RequestFault}
use Rattle.fc_request.specs.declared.request.Request.{Request}
use Rattle.fc_script.specs.declared.script.Search.{Search}
use Rattle.fc_store.specs.Charters.{blocks_at, last_number}
use Rattle.fc_store.specs.Ends.{Pinning, Writing}
use Rattle.fc_store.specs.Generated.{Generated}
use Rattle.fc_work.specs.Opened.{commits_some, indexes_in, pinning_in, place_for, place_in, sessions_in, writing_in}
use Rattle.fc_work.specs.SearchLineView.{sent_list}
use Rattle.fc_work.specs.Seated.{seat_for, seat_in}
use Rattle.fc_work.specs.Sharing.{asking_of}
use Rattle.fc_work.specs.Working.{AllWorked, CanAsk}
use Rattle.fc_work.specs.declared.stores.Opening.{Opening}
use Rattle.fc_work.specs.declared.worker.Worker.{Worker}

-- the readers of a session, one of each store
abbrev pub readers_in : List Opening → List Pinning
readers_in openings = map pinning_in openings

-- a generation with all of a store's charter
abbrev pub whole_of : Writing → Generated
whole_of w = record { schema = w.schema; number = last_number w.charter; blocks = blocks_at w.charter (last_number w.charter) }

abbrev pub whole_in : Opening → Generated
whole_in o = whole_of (writing_in o)

-- the search is of one of so many sessions, and what it asks can be asked of the readers
pub record IsSearchBy (sessions : ℕ) (readers : List Pinning) (q : Search) : Type 0 where
  pub session : q.session < sessions
  pub ask : CanAsk readers q.request

-- a worker for each store that has commits, and one for each session that searches
pub record AreMade (openings : List Opening) (names : List Text) (order : List ℕ) (workers : List Worker) : Type 0 where
  pub indexes : map place_in (indexes_in workers) ≡ map place_for (filter commits_some openings)
  pub seats : map seat_in (sessions_in workers) ≡ map (seat_for names (readers_in openings)) (asking_of order (length names))

-- once each has done its work
pub record AreWorked (openings : List Opening) (names : List Text) (order : List ℕ) (asked : List (Result Request RequestFault)) (workers : List Worker) : Type 0 where
  pub before : List Worker
  pub made : AreMade openings names order before
  pub worked : AllWorked order asked before workers

-- for each search what was sent for it
abbrev pub sent_in : List (Option (Vec Sent Global)) → List (Option (List definition.Sent))
sent_in sent = map sent_list sent

-- the text of some lines was appended, what is told was sent for them, and P holds of them
abbrev pub Adds : (old new : Text) → List (Option (List definition.Sent)) → (List SearchLine → Type 0) → Type 0
Adds old new sent P = (lines : List SearchLine) × (new ≡ old ++ text_of lines) × (sent ≡ sent_for lines) × P lines
