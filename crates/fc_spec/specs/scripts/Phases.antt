-- The searches and the phases of a script.
use Rattle.std.specs.Prelude.{ℕ, ◌+◌, List, map, count_by, ◌==◌, Option, None, Some}
use Rattle.std.specs.List.{filter, filter_map, enumerate_from}
use Rattle.fc_spec.specs.documents.Val.{Text}
use Rattle.fc_spec.specs.words.Lists.{numbers_below}
use Rattle.fc_spec.specs.scripts.Script.{Line, asks, Script, is_sync, phase_of, commits_up_to}

-- a search: its phase, its session and what it asks
pub record Search (A : Type 0) : Type 0 where
  pub phase : ℕ
  pub session : Text
  pub request : A

-- the search that a line is, in its phase
abbrev pub search_at : {A : Type 0} → ℕ → Line A → Option (Search A)
search_at phase (asks session a) = Some (record { phase = phase; session = session; request = a })
search_at phase _ = None

-- the searches of a script, in script order
abbrev pub searches : {A : Type 0} → List (Line A) → List (Search A)
searches lines = filter_map (λ n. search_at (phase_of lines n.0) n.1) (enumerate_from 0 lines)

-- for each shard the number of its commits up to the end of a phase
abbrev pub numbers_at_end : {A : Type 0} → Script A → (phase : ℕ) → List ℕ
numbers_at_end S p = map (λ s. commits_up_to S.lines s p) (numbers_below S.schema.shards)

-- a phase: the number of commits of each shard up to its end, and its searches in script order
pub record Phase (A : Type 0) : Type 0 where
  pub commits : List ℕ
  pub searches : List (Search A)

-- the p-th phase, from 0
abbrev pub phase : {A : Type 0} → Script A → ℕ → Phase A
phase S p = record { commits = numbers_at_end S p; searches = filter (λ q. q.phase == p) (searches S.lines) }

-- the phases of a script: one more than its sync lines
abbrev pub phases : {A : Type 0} → Script A → List (Phase A)
phases S = map (phase S) (numbers_below (count_by is_sync S.lines + 1))
