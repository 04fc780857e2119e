-- Laws about the outputs and the worlds of scripts.
use Rattle.std.specs.Prelude.{◌≡◌, ℕ, ◌≤◌, List, length, map, Bool, true, false, not, ◌==◌, None, Some, IsTrue, Ok, if◌then◌else◌}
use Rattle.std.specs.List.{filter_map, enumerate_from, list_all, list_any}
use Rattle.fc_spec.specs.documents.Val.{Text}
use Rattle.fc_spec.specs.words.Lists.{joined}
use Rattle.fc_spec.specs.scripts.Script.{Line, commit, asks, Script, phase_of, world}
use Rattle.fc_spec.specs.scripts.Phases.{searches, phases}
use Rattle.fc_spec.specs.scripts.AskedScripts.{AskedScript, asked_script_of}
use Rattle.fc_spec.specs.scripts.Outputs.{Replies, IsOutputBy}
use Rattle.fc_spec.specs.scripts.PhaseEnds.{text_at_ends}
use Rattle.fc_spec.specs.scripts.PinnedWorlds.{world_added}
use Rattle.fc_spec.specs.scripts.ScriptParts.{batches}
use Rattle.fc_spec.specs.scripts.ScriptReading.{script_limit}
use Rattle.fc_spec.specs.scripts.ScriptTotals.{Limits, script_limits}
use Rattle.fc_spec.specs.scripts.ValidScripts.{IsWithin}
use Rattle.fc_spec.specs.scripts.WorldLimits.{IsWithinLimits}

-- the searches of a script are those of its phases, one phase after another
abbrev pub StandByPhase : Type 0
StandByPhase = (S : AskedScript) → joined (map (λ p. p.searches) (phases S)) ≡ searches S.lines

-- whatever the replies, the lines over the generations at the ends of phases are an output
abbrev pub EndsAreOutputs : Type 0
EndsAreOutputs = (reply : Replies) (S : AskedScript) → IsOutputBy reply S (text_at_ends reply S)

-- the line is a commit
abbrev pub is_commit : {A : Type 0} → Line A → Bool
is_commit (commit shard) = true
is_commit _ = false

-- the line is a search
abbrev pub is_search : {A : Type 0} → Line A → Bool
is_search (asks session a) = true
is_search _ = false

-- the phases of the lines that pass a test
abbrev pub phases_where : {A : Type 0} → (Line A → Bool) → List (Line A) → List ℕ
phases_where test lines = filter_map (λ n. if test n.1 then Some (phase_of lines n.0) else None) (enumerate_from 0 lines)

-- no phase has both a commit and a search
abbrev pub are_apart : {A : Type 0} → Script A → Bool
are_apart S = list_all (λ p. not (list_any (λ q. q == p) (phases_where is_commit S.lines))) (phases_where is_search S.lines)

-- where they are apart, a script has at most one output, whatever the replies
abbrev pub IsOnlyOutput : Type 0
IsOnlyOutput = (reply : Replies) (S : AskedScript) (t u : Text) → IsTrue (are_apart S) → IsOutputBy reply S t → IsOutputBy reply S u → t ≡ u

-- every world of a script that is within the limits is within them
abbrev pub WorldsAreWithin : Type 0
WorldsAreWithin = (S : AskedScript) (g : List ℕ) → S.schema.shards ≤ 64 → IsWithin script_limits S → IsWithinLimits (world S g)

-- so is all that its batches add, whether later ones leave it or not
abbrev pub AddedAreWithin : Type 0
AddedAreWithin = (S : AskedScript) → S.schema.shards ≤ 64 → IsWithin script_limits S → IsWithinLimits (world_added (batches S))

-- a script that was read has no more searches than it may have bytes
abbrev pub SearchesAreFew : Type 0
SearchesAreFew = (limits : Limits) (bytes : List ℕ) (S : AskedScript) → asked_script_of limits bytes ≡ Ok S → length (searches S.lines) ≤ script_limit
