-- Answers complete one depth after another, and rounds end with the distributed reply.
use Rattle.std.specs.Prelude.{◌≡◌, ℕ, ◌+◌, ◌<◌, ◌≤◌, List, [], ◌++◌, length}
use Rattle.std.specs.List.{AllByRecursion}
use Rattle.fc_spec.specs.documents.World.{World}
use Rattle.fc_spec.specs.requests.Request.{Request}
use Rattle.fc_spec.specs.replies.Distributed.{distributed}
use Rattle.fc_spec.specs.messages.Merged.{merged}
use Rattle.fc_spec.specs.messages.Held.{Told}
use Rattle.fc_spec.specs.messages.Lacks.{untold, lacks, terms_depth}
use Rattle.fc_spec.specs.messages.Rounds.{SentMessage, told_in, later_round, search_rounds}
use Rattle.fc_spec.specs.laws.Merging.{IsAnswer, HasRoots, LacksNothing}

-- nothing lacks at the depths below e
abbrev pub LacksNothingBelow : Request → ℕ → List SentMessage → ℕ → Type 0
LacksNothingBelow r n sent e = (d : ℕ) → d < e → lacks r n (told_in r.nodes sent) d ≡ []

-- where answers lack nothing below a depth, any further answers that tell of each bucket that lacks there complete it and keep the depths below
abbrev pub RoundsComplete : Type 0
RoundsComplete = (r : Request) (W : World) (sent extra : List SentMessage) (e : ℕ) → AllByRecursion (IsAnswer r W) sent → AllByRecursion (IsAnswer r W) extra → HasRoots (length W) (told_in r.nodes sent)
    → LacksNothingBelow r (length W) sent e → untold (told_in r.nodes extra) (lacks r (length W) (told_in r.nodes sent) e) ≡ [] → LacksNothingBelow r (length W) (sent ++ extra) (e + 1)

-- a round that asks for what lacks at a depth, whatever is told, is made of answers and tells of each bucket that lacks there
abbrev pub RoundsAnswer : Type 0
RoundsAnswer = (r : Request) (W : World) (A : List Told) (e round : ℕ) → AllByRecursion (IsAnswer r W) (later_round r W round (lacks r (length W) A e))
    × (untold (told_in r.nodes (later_round r W round (lacks r (length W) A e))) (lacks r (length W) A e) ≡ [])

-- deeper than the request's terms facets nothing lacks
abbrev pub NothingLacksBeyond : Type 0
NothingLacksBeyond = (r : Request) (n e : ℕ) (sent : List SentMessage) → terms_depth r.nodes ≤ e → lacks r n (told_in r.nodes sent) e ≡ []

-- the messages of a search are answers, lack nothing in the end, and merge into the distributed reply
abbrev pub SearchesEnd : Type 0
SearchesEnd = (r : Request) (W : World) → AllByRecursion (IsAnswer r W) (search_rounds r W)
    × LacksNothing r (length W) (told_in r.nodes (search_rounds r W)) × (merged r (length W) (told_in r.nodes (search_rounds r W)) ≡ distributed r W)

-- none has a later round than one for each depth of terms facets behind the first: at most nine, where facets nest at most eight deep
abbrev pub RoundsAreFew : Type 0
RoundsAreFew = (r : Request) (W : World) → AllByRecursion (λ s. (1 ≤ s.round) × (s.round ≤ terms_depth r.nodes + 1)) (search_rounds r W)
