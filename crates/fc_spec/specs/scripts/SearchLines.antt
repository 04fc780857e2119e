-- The lines of searches, each with what its shards sent, whatever is published and pinned while they are answered. Guide: SolrCloud Shards and Indexing; Commits and Transaction Logs.
use Rattle.std.specs.Prelude.{◌≡◌, ℕ, List, [], ◌∷◌, ◌++◌, map, drop, Option, None, Some, Ok, Err, slice_index_or, if◌then◌else◌}
use Rattle.std.specs.List.{filter}
use Rattle.fc_spec.specs.documents.Document.{Batch}
use Rattle.fc_spec.specs.documents.Val.{Text, same_text}
use Rattle.fc_spec.specs.messages.Trace.{Sent}
use Rattle.fc_spec.specs.messages.WholeTrace.{whole_trace}
use Rattle.fc_spec.specs.words.Lists.{joined}
use Rattle.fc_spec.specs.scripts.AskedScripts.{Asked}
use Rattle.fc_spec.specs.scripts.Lines.{reply_line, error_line}
use Rattle.fc_spec.specs.scripts.Outputs.{Replies}
use Rattle.fc_spec.specs.scripts.Phases.{Phase, Search}
use Rattle.fc_spec.specs.scripts.PinnedWorlds.{world_at, AreBetween}
use Rattle.fc_spec.specs.scripts.ScriptParts.{Parts}

-- the line of a search, and what its shards sent for it; where its request has a fault, nothing was asked
pub record SearchLine : Type 0 where
  pub text : Text
  pub sent : Option (List Sent)

-- the lines, one after another
abbrev pub text_of : List SearchLine → Text
text_of lines = joined (map (λ l. l.text) lines)

-- for each line what was sent
abbrev pub sent_for : List SearchLine → List (Option (List Sent))
sent_for lines = map (λ l. l.sent) lines

-- the line of what a session asks, and what holds then: of a request a reply line over some generations between these numbers, which it has shown then, and the trace over them; of a fault its error line: it shows no numbers, and nothing is sent
abbrev pub IsLineOver : Replies → List (List Batch) → (low high : List ℕ) → (session : Text) → Asked → (List ℕ → Type 0) → SearchLine → Type 0
IsLineOver reply shards low high session (Ok r) Then l =
    (g : List ℕ) × AreBetween low high g × (l.text ≡ reply_line (reply r (world_at shards g)) g session) × (l.sent ≡ Some (whole_trace r (world_at shards g))) × Then g
IsLineOver reply shards low high session (Err f) Then l = (l.text ≡ error_line f session) × (l.sent ≡ None) × Then low

-- ---- a phase

-- for each session the numbers that it has at least, once one of them was shown some
abbrev pub least_after : (Text → List ℕ) → (session : Text) → List ℕ → (Text → List ℕ)
least_after least session g c = if same_text session c then g else least c

-- the lines of a phase's searches in their order, where no shard has more commits at its end than these, and each session has some numbers at least
abbrev pub ArePhaseLines : Replies → List (List Batch) → (high : List ℕ) → (least : Text → List ℕ) → List (Search Asked) → List SearchLine → Type 0
ArePhaseLines reply shards high least [] [] = Unit {0}
ArePhaseLines reply shards high least [] (l ∷ ls) = ⊥
ArePhaseLines reply shards high least (q ∷ qs) [] = ⊥
ArePhaseLines reply shards high least (q ∷ qs) (l ∷ ls) =
    IsLineOver reply shards (least q.session) high q.session q.request (λ g. ArePhaseLines reply shards high (least_after least q.session g) qs ls) l

-- ---- its sessions, each by itself

-- what a session asks, in order
abbrev pub asked_by : (session : Text) → List (Search Asked) → List Asked
asked_by session qs = map (λ q. q.request) (filter (λ q. same_text q.session session) qs)

-- the lines of what a session asks in a phase, where it has some numbers at least
abbrev pub AreSessionLines : Replies → List (List Batch) → (high : List ℕ) → (session : Text) → (least : List ℕ) → List Asked → List SearchLine → Type 0
AreSessionLines reply shards high session least [] [] = Unit {0}
AreSessionLines reply shards high session least [] (l ∷ ls) = ⊥
AreSessionLines reply shards high session least (a ∷ asked) [] = ⊥
AreSessionLines reply shards high session least (a ∷ asked) (l ∷ ls) =
    IsLineOver reply shards least high session a (λ g. AreSessionLines reply shards high session g asked ls) l

-- where a session has no line
abbrev pub no_line : SearchLine
no_line = record { text = []; sent = None }

-- the lines of each session without the first one of this session
abbrev pub without_first : (Text → List SearchLine) → (session : Text) → (Text → List SearchLine)
without_first lines session c = if same_text session c then drop 1 (lines c) else lines c

-- the lines of the sessions, woven: for each search the next line of its session
abbrev pub woven : (Text → List SearchLine) → List (Search Asked) → List SearchLine
woven lines [] = []
woven lines (q ∷ qs) = slice_index_or (lines q.session) 0 no_line ∷ woven (without_first lines q.session) qs

-- ---- all phases

-- the lines of phases, one phase after another, where no shard has fewer commits in the first of them than these, and none fewer in a later one than in the one before
abbrev pub AreLinesOfAll : Replies → List (List Batch) → (before : List ℕ) → List (Phase Asked) → List SearchLine → Type 0
AreLinesOfAll reply shards before [] ls = ls ≡ []
AreLinesOfAll reply shards before (p ∷ ps) ls =
    (own : List SearchLine) × (rest : List SearchLine) × (ls ≡ own ++ rest) × ArePhaseLines reply shards p.commits (λ session. before) p.searches own × AreLinesOfAll reply shards p.commits ps rest

-- the lines of the searches of a script with these parts
abbrev pub AreLinesOfParts : Replies → Parts Asked → List SearchLine → Type 0
AreLinesOfParts reply parts ls = AreLinesOfAll reply parts.batches (map (λ batches. 0) parts.batches) parts.phases ls
