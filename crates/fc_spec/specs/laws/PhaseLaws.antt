-- What phases may write, and what scripts do.
use Rattle.std.specs.Prelude.{ℕ, List, [], All, IfSome}
use Rattle.fc_spec.specs.documents.Document.{Batch}
use Rattle.fc_spec.specs.laws.TraceLaws.{Ascend}
use Rattle.fc_spec.specs.documents.Val.{Text}
use Rattle.fc_spec.specs.scripts.AskedScripts.{Asked, AskedScript}
use Rattle.fc_spec.specs.scripts.Booked.{Books, AreBooked, book_all}
use Rattle.fc_spec.specs.scripts.Outputs.{Replies, IsOutputBy}
use Rattle.fc_spec.specs.scripts.Phases.{Search, searches}
use Rattle.fc_spec.specs.scripts.PinnedWorlds.{world_at, world_added}
use Rattle.fc_spec.specs.scripts.SearchLines.{SearchLine, ArePhaseLines, AreSessionLines, AreLinesOfParts, asked_by, sent_for, text_of, woven}
use Rattle.fc_spec.specs.scripts.ScriptParts.{parts_of}
use Rattle.fc_spec.specs.scripts.WorldLimits.{IsWithinLimits}

-- the lines of the sessions of a phase, each made by itself, woven in the order of the searches, are the lines of the phase
abbrev pub SessionsWeave : Type 0
SessionsWeave = (reply : Replies) (shards : List (List Batch)) (high : List ℕ) (least : Text → List ℕ) (qs : List (Search Asked)) (lines : Text → List SearchLine)
    → ((session : Text) → AreSessionLines reply shards high session (least session) (asked_by session qs) (lines session)) → ArePhaseLines reply shards high least qs (woven lines qs)

-- the lines of all phases are an output of the script, and what was sent for them is what is booked with it
abbrev pub PhasesAddUp : Type 0
PhasesAddUp = (reply : Replies) (S : AskedScript) (ls : List SearchLine) (before : Books) → AreLinesOfParts reply (parts_of S) ls → AreBooked reply S [] 0 (searches S.lines) (text_of ls) before (book_all 0 (sent_for ls) before)

-- what is booked is an output
abbrev pub BookedAreOutputs : Type 0
BookedAreOutputs = (reply : Replies) (S : AskedScript) (t : Text) (before after : Books) → AreBooked reply S [] 0 (searches S.lines) t before after → IsOutputBy reply S t

-- what was sent for each line of a phase ascends by round, then by shard
abbrev pub SentAscends : Type 0
SentAscends = (reply : Replies) (shards : List (List Batch)) (high : List ℕ) (least : Text → List ℕ) (qs : List (Search Asked)) (ls : List SearchLine) → ArePhaseLines reply shards high least qs ls → All (λ sent. IfSome sent Ascend) (sent_for ls)

-- where all that the batches of all shards add is within the limits, so is what the first ones of each leave, however many
abbrev pub FirstAreWithin : Type 0
FirstAreWithin = (shards : List (List Batch)) (g : List ℕ) → IsWithinLimits (world_added shards) → IsWithinLimits (world_at shards g)
