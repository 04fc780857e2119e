-- The core of a phase: what each shard has published and what each session has pinned, event by event. Guide: SolrCloud Shards and Indexing; Commits and Transaction Logs.
use Rattle.std.specs.Prelude.{ℕ, ◌+◌, List, [], ◌∷◌, ◌++◌, length, map, fold, Bool, true, ◌&&◌, ◌==◌, nat_lt, slice_index, slice_index_or, slice_set, if◌then◌else◌}
use Rattle.fc_spec.specs.words.Lists.{numbers_below}
use Rattle.fc_spec.specs.scripts.Phases.{numbers_at_end}
use Rattle.fc_spec.specs.scripts.Script.{Script, commits_before}
use Rattle.fc_spec.specs.scripts.ScriptTotals.{sessions}

-- a shard publishes its next generation; or a session, told by its place among the sessions, pins what a shard has published
pub data Event : Type 0 where
  publish : ℕ → Event
  pin : ℕ → ℕ → Event

-- for each shard the number that is published, and the last one of the phase; for each session the number that it pinned last on each shard
pub record PhaseState : Type 0 where
  pub published : List ℕ
  pub last : List ℕ
  pub pinned : List (List ℕ)

-- a session's numbers, one per shard; none where there is no such session
abbrev pub numbers_of : PhaseState → ℕ → List ℕ
numbers_of x c = slice_index_or x.pinned c []

-- a phase opens with all commits of earlier phases, for every session too
abbrev pub opening : {A : Type 0} → Script A → (phase : ℕ) → PhaseState
opening S p =
    let before = map (λ s. commits_before S.lines s p) (numbers_below S.schema.shards) in
    record { published = before; last = numbers_at_end S p; pinned = map (λ session. before) (sessions S.lines) }

-- a shard publishes no further than the phase's commits; sessions and shards are there
abbrev pub allows : PhaseState → Event → Bool
allows x (publish s) = nat_lt (slice_index x.published s) (slice_index x.last s)
allows x (pin c s) = nat_lt s (length (numbers_of x c))

abbrev pub after : PhaseState → Event → PhaseState
after x (publish s) = record x { published = slice_set x.published s (slice_index x.published s + 1) }
after x (pin c s) = record x { pinned = slice_set x.pinned c (slice_set (numbers_of x c) s (slice_index x.published s)) }

-- each event is allowed behind those before it
abbrev pub is_schedule : PhaseState → List Event → Bool
is_schedule x [] = true
is_schedule x (e ∷ es) = allows x e && is_schedule (after x e) es

-- behind all events
abbrev pub behind : PhaseState → List Event → PhaseState
behind x es = fold after x es

-- the session's number on the shard behind an event that pins it there
abbrev pub pinned_by : (session shard : ℕ) → PhaseState → Event → List ℕ
pinned_by c s x (publish t) = []
pinned_by c s x (pin d t) = if d == c && t == s then slice_index (numbers_of (after x (pin d t)) c) s ∷ [] else []

-- the numbers that a session pins on a shard, in order
abbrev pub pins_on : (session shard : ℕ) → PhaseState → List Event → List ℕ
pins_on c s x [] = []
pins_on c s x (e ∷ es) = pinned_by c s x e ++ pins_on c s (after x e) es

-- A session's searches follow one another and each pins each shard once, so the k-th search of the phase, from 0, has on each shard the session's k-th pin there.
abbrev pub search_numbers : {A : Type 0} → Script A → (phase : ℕ) → List Event → (session k : ℕ) → List ℕ
search_numbers S p es c k = map (λ s. slice_index (pins_on c s (opening S p) es) k) (numbers_below S.schema.shards)

-- what the first n searches of a session show, in order
abbrev pub numbers_shown : {A : Type 0} → Script A → (phase : ℕ) → List Event → (session n : ℕ) → List (List ℕ)
numbers_shown S p es c n = map (search_numbers S p es c) (numbers_below n)
