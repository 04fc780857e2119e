-- What the state of a coordinator keeps of all that was told.
use Rattle.std.specs.Prelude.{◌≡◌, ℕ, suc, ◌+◌, ◌<◌, ◌≤◌, List, [], ◌++◌, length, true, false, ◌||◌, IsTrue, is_some, Option, Some}
use Rattle.std.specs.List.{AllByRecursion, list_any}
use Rattle.fc_spec.specs.requests.Request.{Request}
use Rattle.fc_spec.specs.requests.Ranks.{offered_bound}
use Rattle.fc_spec.specs.messages.Message.{way_of, Ask, first, more}
use Rattle.fc_spec.specs.messages.Held.{Told, held}
use Rattle.fc_spec.specs.messages.Lacks.{Lack, lacks}
use Rattle.fc_spec.specs.messages.Rounds.{wants_of}
use Rattle.fc_spec.specs.laws.LacksLaws.{IsFitting, TellOnce, way_depth, AreWithinDepth, AreOfOthers}
use Rattle.fc_spec.specs.laws.Merging.{HasRoots, LacksNothing}
use Rattle.fc_spec.specs.laws.SumsLaw.{SumsFit}
use Rattle.fc_told.specs.Telling.{Tells}
use Rattle.fc_coord.specs.State.{State, ask_at}

-- what a round asks for: each shard's root, or what lacks at a depth
pub data Round : Type 0 where
  roots : Round
  lacking_at : ℕ → Round

-- how many steps to terms facets lead to the buckets that it asks for
abbrev pub depth_of : Round → ℕ
depth_of roots = 0
depth_of (lacking_at e) = suc e

-- what it asks of a shard, where all this was told before
abbrev pub ask_in : Request → ℕ → List Told → Round → ℕ → Ask
ask_in r n before roots i = first
ask_in r n before (lacking_at e) i = more (wants_of i (lacks r n before e))

-- it begins where nothing was told; or where nothing was told of deeper buckets, and nothing lacks at a lower depth
abbrev pub Begins : Request → ℕ → List Told → Round → Type 0
Begins r n before roots = before ≡ []
Begins r n before (lacking_at e) = AreWithinDepth r.nodes e before × ((d : ℕ) → d < e → lacks r n before d ≡ [])

-- the shard is awaited, or has told of the bucket
abbrev pub IsAnswered : List (Option Ask) → List Told → Lack → Type 0
IsAnswered asks here l = IsTrue (is_some (ask_at asks l.shard) || is_some (held here l.shard (way_of l.want)))

-- so it is with all that the round asks for
abbrev pub AreAnswered : Request → ℕ → List Told → Round → List (Option Ask) → List Told → Type 0
AreAnswered r n before roots asks here = Unit {0}
AreAnswered r n before (lacking_at e) asks here = AllByRecursion (IsAnswered asks here) (lacks r n before e)

-- a shard that is asked is asked what the round asks of it, and has told nothing in the round
pub record IsAsked (r : Request) (n : ℕ) (before : List Told) (round : Round) (here : List Told) (i : ℕ) (ask : Ask) : Type 0 where
  pub own : ask ≡ ask_in r n before round i
  pub untold : AreOfOthers i here

-- the shard is awaited in the first round, or has told its root
abbrev pub IsRooted : Round → List (Option Ask) → List Told → ℕ → Type 0
IsRooted roots asks A i = IsTrue (is_some (ask_at asks i) || is_some (held A i []))
IsRooted (lacking_at e) asks A i = IsTrue (is_some (held A i []))

-- nobody is awaited, each shard has told its root, and nothing lacks
abbrev pub HasEnded : State → List Told → Type 0
HasEnded s A = (list_any is_some s.asks ≡ false) × HasRoots (length s.asks) A × LacksNothing s.request (length s.asks) A

-- A lists all that was told, in the order of its arrival: what was told before this round, and in it. The tree tells of that; each bucket has the nodes where its way leads, and their shape; its sums fit; no shard told a bucket twice; once the reply can be made, all has ended
pub record Keeps (s : State) (A : List Told) : Type 0 where
  pub before : List Told
  pub here : List Told
  pub asking : Round
  pub told : A ≡ before ++ here
  pub tree : Tells s.tree A
  pub fitting : AllByRecursion (IsFitting offered_bound s.request) A
  pub sums : SumsFit A
  pub once : TellOnce A
  pub begins : Begins s.request (length s.asks) before asking
  pub depths : AllByRecursion (λ t. way_depth s.request.nodes t.way ≡ depth_of asking) here
  pub asked : (i : ℕ) (ask : Ask) → ask_at s.asks i ≡ Some ask → IsAsked s.request (length s.asks) before asking here i ask
  pub answered : AreAnswered s.request (length s.asks) before asking s.asks here
  pub rounds : s.round ≤ depth_of asking + 1
  pub rooted : (i : ℕ) → i < length s.asks → IsRooted asking s.asks A i
  pub ended : s.ready ≡ true → HasEnded s A
