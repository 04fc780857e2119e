-- The phases of the searches of a script never fall, and none is past its last sync line.
use Rattle.std.proofs.Common.{ℕ, zero, suc, ◌+◌, ◌≤◌, List, [], ◌∷◌, take, cond, count_by, add-one, arith}
use Rattle.std.specs.List.{filter_map, enumerate_from}
use Rattle.std.proofs.lemmas.List.Sums.{sum_by-take-le}
use Rattle.fc_spec.specs.scripts.Script.{Line, add, delete, commit, sync, asks, is_sync, phase_of}
use Rattle.fc_spec.specs.scripts.Phases.{Search, search_at, searches}
use Rattle.fc_spec.proofs.words.Counting.{count_by-cons}

-- from low on the phases never fall, up to high
abbrev pub Climbs : {A : Type 0} → ℕ → ℕ → List (Search A) → Type 0
Climbs low high [] = Unit {0}
Climbs low high (q ∷ qs) = (low ≤ q.phase) × (q.phase ≤ high) × Climbs q.phase high qs

pub climbs_from : {A : Type 0} (low more high : ℕ) (qs : List (Search A)) → low ≤ more → Climbs more high qs → Climbs low high qs
climbs_from low more high [] le c = tt
climbs_from low more high (q ∷ qs) le c = (omega arith, c.1, c.2)

-- one line further
phase_step : {A : Type 0} (lines : List (Line A)) (i : ℕ) → phase_of lines i ≤ phase_of lines (suc i)
phase_step [] zero = omega arith
phase_step [] (suc i) = omega arith
phase_step (x ∷ xs) zero = omega arith
phase_step (x ∷ xs) (suc i) = omega (arith, count_by-cons is_sync x (take i xs), count_by-cons is_sync x (take (suc i) xs), phase_step xs i)

last_phase : {A : Type 0} (lines : List (Line A)) (i : ℕ) → phase_of lines i ≤ count_by is_sync lines
last_phase lines i = sum_by-take-le (λ l. cond (is_sync l) 1 0) lines i

rise_from : {A : Type 0} (lines : List (Line A)) (low i : ℕ) (xs : List (Line A)) → low ≤ phase_of lines i
    → Climbs low (count_by is_sync lines) (filter_map (λ n. search_at (phase_of lines n.0) n.1) (enumerate_from i xs))
rise_from lines low i [] h = tt
rise_from lines low i (asks session a ∷ xs) h = (h, last_phase lines i, rise_from lines (phase_of lines i) (i + 1) xs (rw add-one (phase_step lines i)))
rise_from lines low i (add shard block ∷ xs) h = rise_from lines low (i + 1) xs (let step = phase_step lines i in rw add-one (omega arith))
rise_from lines low i (delete shard id ∷ xs) h = rise_from lines low (i + 1) xs (let step = phase_step lines i in rw add-one (omega arith))
rise_from lines low i (commit shard ∷ xs) h = rise_from lines low (i + 1) xs (let step = phase_step lines i in rw add-one (omega arith))
rise_from lines low i (sync ∷ xs) h = rise_from lines low (i + 1) xs (let step = phase_step lines i in rw add-one (omega arith))

pub searches_climb : {A : Type 0} (lines : List (Line A)) → Climbs 0 (count_by is_sync lines) (searches lines)
searches_climb lines = rise_from lines 0 0 lines (omega arith)
