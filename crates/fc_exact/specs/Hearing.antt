-- The core under way: what it was told are answers of the shards of a world, each to what it was asked.
use Rattle.std.specs.Prelude.{◌≡◌, ℕ, ◌<◌, List, [], ◌++◌, length, Bool, true, false, ◌==◌, IsTrue, Some, ◌⊎◌}
use Rattle.std.specs.List.{AllByRecursion, list_any}
use Rattle.fc_spec.specs.documents.World.{World}
use Rattle.fc_spec.specs.requests.Request.{Request}
use Rattle.fc_spec.specs.messages.TopRounds.{ExactAsk, exact_first, exact_least, exact_answer, leasts, ExactSent, exact_told_in}
use Rattle.fc_spec.specs.replies.Tops.{tops_of}
use Rattle.fc_spec.specs.laws.TopRoundsLaw.{AreTopNodes, IsExactRound, asks_for_more, is_asked_more}
use Rattle.fc_exact.specs.State.{State, ask_at, is_awaited, at_start, taken, tops}

-- of a round some messages were taken, and the other shards that are asked are awaited
pub record IsRoundSoFar (x : Request) (W : World) (ask : ℕ → ExactAsk) (is_asked : ℕ → Bool) (sent : List ExactSent) (s : State) : Type 0 where
  pub answers : AllByRecursion (λ m. (m.message ≡ exact_answer x W m.shard m.ask) × (m.ask ≡ ask m.shard) × (m.shard < length W)) sent
  pub whole : (i : ℕ) → i < length W → IsTrue (is_asked i) → IsTrue (is_awaited s i) ⊎ IsTrue (list_any (λ m. m.shard == i) sent)
  pub asks : (i : ℕ) (a : ExactAsk) → ask_at s.asks i ≡ Some a → (a ≡ ask i) × (i < length W)

-- the rounds so far
abbrev pub IsFirst : Request → World → State → List ExactSent → Type 0
IsFirst x W s one = IsRoundSoFar x W (λ i. exact_first) (λ i. true) one s

abbrev pub WasFirst : Request → World → List ExactSent → Type 0
WasFirst x W one = IsExactRound x W (λ i. exact_first) (λ i. true) one

abbrev pub IsSecond : Request → World → State → (one two : List ExactSent) → Type 0
IsSecond x W s one two = IsRoundSoFar x W (λ i. exact_least (leasts x (length W) (exact_told_in one))) (λ i. true) two s

abbrev pub WasSecond : Request → World → (one two : List ExactSent) → Type 0
WasSecond x W one two = IsExactRound x W (λ i. exact_least (leasts x (length W) (exact_told_in one))) (λ i. true) two

abbrev pub IsThird : Request → World → State → (one two three : List ExactSent) → Type 0
IsThird x W s one two three = IsRoundSoFar x W (asks_for_more x (one ++ two)) (is_asked_more x (one ++ two)) three s

abbrev pub WasThird : Request → World → (one two three : List ExactSent) → Type 0
WasThird x W one two three = IsExactRound x W (asks_for_more x (one ++ two)) (is_asked_more x (one ++ two)) three

-- in one of the rounds, or ready
abbrev pub IsUnderWay : Request → World → State → (one two three : List ExactSent) → Type 0
IsUnderWay x W s one two three =
    ((s.ready ≡ false) × (s.round ≡ 1) × (two ≡ []) × (three ≡ []) × IsFirst x W s one)
    ⊎ (((s.ready ≡ false) × (s.round ≡ 2) × (three ≡ []) × WasFirst x W one × IsSecond x W s one two)
    ⊎ (((s.ready ≡ false) × (s.round ≡ 3) × WasFirst x W one × WasSecond x W one two × IsThird x W s one two three)
    ⊎ ((s.ready ≡ true) × WasFirst x W one × WasSecond x W one two × WasThird x W one two three)))

-- the core of the request was told what the world's shards answered
abbrev pub IsHearing : Request → World → State → Type 0
IsHearing x W s =
    (one : List ExactSent) × (two : List ExactSent) × (three : List ExactSent) × (s.request ≡ x) × (length s.asks ≡ length W) × (s.told ≡ exact_told_in ((one ++ two) ++ three)) × IsUnderWay x W s one two three

-- ---- laws

-- so it is at the start, stays so with each answer of an awaited shard, and gives the top values in the end
abbrev pub StartsHearing : Type 0
StartsHearing = (x : Request) (W : World) → IsHearing x W (at_start x (length W))

abbrev pub GoesOnHearing : Type 0
GoesOnHearing = (x : Request) (W : World) (s : State) (i : ℕ) (a : ExactAsk) → IsHearing x W s → s.ready ≡ false → ask_at s.asks i ≡ Some a → IsHearing x W (taken s i (exact_answer x W i a))

abbrev pub EndsWithTops : Type 0
EndsWithTops = (x : Request) (W : World) (s : State) → AreTopNodes x.nodes → IsHearing x W s → s.ready ≡ true → tops s ≡ tops_of x W
