-- The core under way in the order of the shards: what it was told are the messages of the rounds so far.
use Rattle.std.specs.Prelude.{◌≡◌, ℕ, zero, suc, ◌-◌, ◌<◌, ◌≤◌, List, [], ◌∷◌, ◌++◌, length, true, false, is_some, Option, None, Some, slice_set, if◌then◌else◌, IsTrue}
use Rattle.std.specs.List.{AllByRecursion, list_any}
use Rattle.fc_spec.specs.documents.World.{World}
use Rattle.fc_spec.specs.requests.Request.{Request}
use Rattle.fc_spec.specs.messages.Message.{way_of}
use Rattle.fc_spec.specs.laws.LacksLaws.{names_keys}
use Rattle.fc_spec.specs.messages.TopRounds.{ExactAsk, exact_more, exact_answer, ExactSent, exact_sent, exact_told_in, offering_round, least_round, exact_rounds}
use Rattle.fc_spec.specs.messages.WholeTrace.{exact_round_count}
use Rattle.fc_spec.specs.laws.TopRoundsLaw.{AreTopNodes}
use Rattle.fc_spec.specs.replies.Tops.{tops_of}
use Rattle.fc_exact.specs.State.{State, ask_at, at_start, taken, tops}

-- the messages of a round that answer asks of shards, of which the first has the number i
abbrev pub messages_from : Request → World → (round i : ℕ) → List (Option ExactAsk) → List ExactSent
messages_from x W round i [] = []
messages_from x W round i (None ∷ asks) = messages_from x W round (suc i) asks
messages_from x W round i (Some ask ∷ asks) = exact_sent x W round i ask ∷ messages_from x W round (suc i) asks

-- those that are awaited
abbrev pub awaited_messages : Request → World → State → List ExactSent
awaited_messages x W s = messages_from x W s.round 0 s.asks

-- the messages of the rounds up to this one
abbrev pub rounds_until : Request → World → ℕ → List ExactSent
rounds_until x W (suc zero) = offering_round x W
rounds_until x W (suc (suc zero)) = offering_round x W ++ least_round x W (exact_told_in (offering_round x W))
rounds_until x W _ = exact_rounds x W

-- the core of the request was told these answers of the world's shards. Until the values can be given some shard is awaited, and with the messages that are awaited they are those of the rounds up to this one; then they are those of all rounds
pub record WasTold (x : Request) (W : World) (s : State) (sent : List ExactSent) : Type 0 where
  pub request : s.request ≡ x
  pub shards : length s.asks ≡ length W
  pub fresh : s.spent ≡ false
  pub told : s.told ≡ exact_told_in sent
  pub goes_on : s.ready ≡ false → list_any is_some s.asks ≡ true
  pub messages : s.ready ≡ false → sent ++ awaited_messages x W s ≡ rounds_until x W s.round
  pub counted : (1 ≤ s.round) × (s.round ≤ exact_round_count x W)
  pub ended : s.ready ≡ true → (sent ≡ exact_rounds x W) × (s.round ≡ exact_round_count x W)

-- what a shard can be asked: of buckets some, each by a key of a facet of the request
abbrev pub IsAskable : Request → ExactAsk → Type 0
IsAskable x (exact_more wants) = (0 < length wants) × AllByRecursion (λ w. IsTrue (names_keys x.nodes (way_of w))) wants
IsAskable x _ = Unit {0}

-- no shard before this one is awaited
abbrev pub IsFirstAwaited : List (Option ExactAsk) → ℕ → ExactAsk → Type 0
IsFirstAwaited [] i ask = ⊥
IsFirstAwaited (o ∷ asks) zero ask = o ≡ Some ask
IsFirstAwaited (o ∷ asks) (suc i) ask = (o ≡ None) × IsFirstAwaited asks i ask

-- how many rounds there are at most from this one on; none once the values can be given
abbrev pub rounds_left : State → ℕ
rounds_left s = if s.ready then 0 else suc (3 - s.round)

-- ---- laws

-- so it is at the start, of one shard at least
abbrev pub IsToldAtStart : Type 0
IsToldAtStart = (x : Request) (W : World) → 1 ≤ length W → WasTold x W (at_start x (length W)) []

-- and stays so with the answer of the first shard that is awaited
abbrev pub IsToldFurther : Type 0
IsToldFurther = (x : Request) (W : World) (s : State) (sent : List ExactSent) (i : ℕ) (ask : ExactAsk) → WasTold x W s sent → s.ready ≡ false → IsFirstAwaited s.asks i ask
    → WasTold x W (taken s i (exact_answer x W i ask)) (sent ++ exact_sent x W s.round i ask ∷ [])

-- behind the last message of a round fewer rounds are left
abbrev pub HasFewerLeft : Type 0
HasFewerLeft = (x : Request) (W : World) (s : State) (sent : List ExactSent) (i : ℕ) (ask : ExactAsk) → WasTold x W s sent → s.ready ≡ false → IsFirstAwaited s.asks i ask
    → list_any is_some (slice_set s.asks i None) ≡ false → rounds_left (taken s i (exact_answer x W i ask)) < rounds_left s

-- once the values can be given they are the top values
abbrev pub TellsTops : Type 0
TellsTops = (x : Request) (W : World) (s : State) (sent : List ExactSent) → AreTopNodes x.nodes → WasTold x W s sent → s.ready ≡ true → tops s ≡ tops_of x W

-- and who is awaited can be asked what it is asked
abbrev pub AreAskable : Type 0
AreAskable = (x : Request) (W : World) (s : State) (sent : List ExactSent) (i : ℕ) (ask : ExactAsk) → AreTopNodes x.nodes → WasTold x W s sent → s.ready ≡ false → ask_at s.asks i ≡ Some ask → IsAskable x ask
