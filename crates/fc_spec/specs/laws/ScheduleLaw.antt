-- Whatever the schedules, what searches pin is legal.
use Rattle.std.specs.Prelude.{ℕ, zero, suc, ◌+◌, ◌<◌, ◌≤◌, List, [], ◌++◌, length, All, IsTrue, slice_index}
use Rattle.fc_spec.specs.scripts.AskedScripts.{AskedScript}
use Rattle.fc_spec.specs.scripts.ScriptTotals.{sessions}
use Rattle.fc_spec.specs.scripts.Outputs.{legal}
use Rattle.fc_spec.specs.scripts.PhaseCore.{Event, numbers_of, opening, is_schedule, behind, pins_on, search_numbers, numbers_shown}

-- the events are a schedule of the phase
abbrev pub IsScheduleOf : AskedScript → (phase : ℕ) → List Event → Type 0
IsScheduleOf S p es = IsTrue (is_schedule (opening S p) es)

-- the session has finished n searches: it has pinned each shard so often
abbrev pub HasFinished : AskedScript → (phase : ℕ) → List Event → (session n : ℕ) → Type 0
HasFinished S p es c n = (s : ℕ) → s < S.schema.shards → n ≤ length (pins_on c s (opening S p) es)

-- numbers that were legal in an earlier phase
abbrev pub IsFromBefore : AskedScript → (phase : ℕ) → List ℕ → Type 0
IsFromBefore S p g = (q : ℕ) × (earlier : List (List ℕ)) × (q < p) × IsTrue (legal S earlier q g)

-- in a phase, whatever its schedule: each search of a session is legal, after what earlier phases and its earlier searches showed it
abbrev pub PinsAreLegal : Type 0
PinsAreLegal = (S : AskedScript) (p : ℕ) (es : List Event) (c k : ℕ) (earlier : List (List ℕ)) → IsScheduleOf S p es → HasFinished S p es c (k + 1) → All (IsFromBefore S p) earlier
    → IsTrue (legal S (earlier ++ numbers_shown S p es c k) p (search_numbers S p es c k))

-- what a session's searches showed in the phases before p, where it finished so many in each
abbrev pub shown_before : AskedScript → (schedules : ℕ → List Event) → (session : ℕ) → (finished : ℕ → ℕ) → (p : ℕ) → List (List ℕ)
shown_before S schedules c finished zero = []
shown_before S schedules c finished (suc p) = shown_before S schedules c finished p ++ numbers_shown S p (schedules p) c (finished p)

-- over all phases, whatever their schedules: each search of a session is legal, after all that it was shown
abbrev pub RunsAreLegal : Type 0
RunsAreLegal = (S : AskedScript) (schedules : ℕ → List Event) (c : ℕ) (finished : ℕ → ℕ) → ((q : ℕ) → IsScheduleOf S q (schedules q)) → ((q : ℕ) → HasFinished S q (schedules q) c (finished q))
    → (p k : ℕ) → k < finished p → IsTrue (legal S (shown_before S schedules c finished p ++ numbers_shown S p (schedules p) c k) p (search_numbers S p (schedules p) c k))

-- a phase opens with no lower number for a session than it had at the end of the phase before
abbrev pub PhasesGoOn : Type 0
PhasesGoOn = (S : AskedScript) (p : ℕ) (es : List Event) (c s : ℕ) → IsScheduleOf S p es → c < length (sessions S.lines) → s < S.schema.shards
    → slice_index (numbers_of (behind (opening S p) es) c) s ≤ slice_index (numbers_of (opening S (p + 1)) c) s
