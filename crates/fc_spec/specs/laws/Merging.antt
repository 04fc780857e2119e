-- What answers merge into.
use Rattle.std.specs.Prelude.{◌≡◌, ℕ, ◌<◌, List, [], length, IsTrue, is_some}
use Rattle.std.specs.List.{AllByRecursion}
use Rattle.fc_spec.specs.documents.World.{World}
use Rattle.fc_spec.specs.requests.Request.{Request}
use Rattle.fc_spec.specs.replies.Distributed.{distributed}
use Rattle.fc_spec.specs.messages.Answer.{answer}
use Rattle.fc_spec.specs.messages.Held.{Told, held}
use Rattle.fc_spec.specs.messages.Merged.{merged}
use Rattle.fc_spec.specs.messages.Lacks.{lacks}
use Rattle.fc_spec.specs.messages.Rounds.{SentMessage, told_in}

-- the message is the answer of its shard to its ask
abbrev pub IsAnswer : Request → World → SentMessage → Type 0
IsAnswer r W s = s.message ≡ answer r W s.shard s.ask

-- each shard has told of the root
abbrev pub HasRoots : ℕ → List Told → Type 0
HasRoots n A = (i : ℕ) → i < n → IsTrue (is_some (held A i []))

-- at no depth does anything lack
abbrev pub LacksNothing : Request → ℕ → List Told → Type 0
LacksNothing r n A = (e : ℕ) → lacks r n A e ≡ []

-- messages that are answers, in any order and any number, that tell of every shard's root and lack nothing, merge into the distributed reply
abbrev pub MergesIntoReply : Type 0
MergesIntoReply = (r : Request) (W : World) (sent : List SentMessage) → AllByRecursion (IsAnswer r W) sent
    → HasRoots (length W) (told_in r.nodes sent) → LacksNothing r (length W) (told_in r.nodes sent) → merged r (length W) (told_in r.nodes sent) ≡ distributed r W
