-- A message that is told, and what follows.
use Rattle.std.proofs.Common.{◌≡◌, ℕ, ◌<◌, ◌≤◌, List, [], ◌∷◌, ◌++◌, map, length, false, cond, Some, IsTrue, is_some, refl, sym, ◌∙◌, ap, subst, arith}
use Rattle.std.specs.Prelude.{None, slice_set}
use Rattle.std.proofs.lemmas.Bool.{false≢true}
use Rattle.std.proofs.lemmas.List.{map-append}
use Rattle.fc_spec.specs.documents.World.{World}
use Rattle.fc_spec.specs.requests.Request.{Request}
use Rattle.fc_spec.specs.messages.Message.{Partials}
use Rattle.fc_spec.specs.messages.MessageBytes.{message_bytes}
use Rattle.fc_spec.specs.messages.Trace.{Sent}
use Rattle.fc_spec.specs.messages.TopRounds.{ExactSent, exact_answer, exact_sent}
use Rattle.fc_spec.specs.messages.WholeTrace.{exact_entry_of}
use Rattle.fc_spec.specs.scripts.WorldLimits.{IsWithinLimits}
use Rattle.fc_exact.specs.Rounds.{IsFirstAwaited, WasTold, rounds_left}
use Rattle.fc_exact.specs.State.{State, ask_at, begun, heard, is_awaited, taken}
use Rattle.fc_exact.proofs.Heard.{within_asks}
use Rattle.fc_exact.proofs.InOrder.{few_rounds, first_at}
use Rattle.fc_round.specs.Questions.{ShardAsk}
use Rattle.fc_tops.specs.Asked.{questions_from}
use Rattle.fc_tops.specs.FindingLaws.{AreFindingLaws}
use Rattle.fc_tops.specs.Hearing.{HasHeard}
use Rattle.fc_tops.proofs.FirstQuestion.{IsFirst, first_question, none_asked, some_asked}

-- in a round that began with so many left: the questions whose answers are still to be told are those of the shards that are awaited; behind the last one fewer rounds are left
abbrev pub IsInRound : ℕ → State → List ShardAsk → Type 0
IsInRound left s [] = rounds_left s < left
IsInRound left s (q ∷ rest) = (questions_from 0 s.asks ≡ q ∷ rest) × (rounds_left s ≡ left) × (s.ready ≡ false)

-- ---- the message that is told next

module _ (laws : AreFindingLaws) (x : Request) (W : World) (s : State) (sent : List ExactSent) (told : WasTold x W s sent) (left : ℕ) (q : ShardAsk) (rest : List ShardAsk) (here : IsInRound left s (q ∷ rest)) where
  next : IsFirst 0 s.asks q rest
  next = first_question 0 s.asks q rest here.0

  place : next.place ≡ q.shard
  place = let shard = next.shard in omega (arith, shard)

  first : IsFirstAwaited s.asks q.shard q.ask
  first = subst (λ i. IsFirstAwaited s.asks i q.ask) place next.first

  others : questions_from 0 (slice_set s.asks q.shard None) ≡ rest
  others = ap (λ i. questions_from 0 (slice_set s.asks i None)) (sym place) ∙ next.others

  at : ask_at s.asks q.shard ≡ Some q.ask
  at = first_at s.asks q.shard q.ask first

  pub awaited : IsTrue (is_awaited s q.shard)
  awaited = ap is_some at

  -- its shard is there
  pub shard_there : q.shard < length W
  shard_there = let below = within_asks s.asks q.shard q.ask at in let same = told.shards in omega (arith, below, same)

  abbrev m : Partials
  m = exact_answer x W q.shard q.ask

  abbrev h : State
  h = heard s q.shard m

  follows : (after : List ShardAsk) → questions_from 0 h.asks ≡ after → IsInRound left (taken s q.shard m) after
  follows [] e = let fewer = laws.fewer x W s sent q.shard q.ask told here.2 first (none_asked 0 h.asks e) in let same = here.1 in omega (arith, fewer, same)
  follows (p ∷ ps) e =
      subst (λ b. IsInRound left (cond b h (begun h)) (p ∷ ps)) (sym (some_asked 0 h.asks p ps e)) (e, here.1, here.2)

  pub told_more : WasTold x W (taken s q.shard m) (sent ++ exact_sent x W s.round q.shard q.ask ∷ []) × IsInRound left (taken s q.shard m) rest
  told_more = (laws.taken x W s sent q.shard q.ask told here.2 first, follows rest others)

  -- the entry of this message
  pub entry : map exact_entry_of (sent ++ exact_sent x W s.round q.shard q.ask ∷ []) ≡ map exact_entry_of sent ++ record { round = s.round; shard = q.shard; length = length (message_bytes m) } ∷ []
  entry = map-append exact_entry_of sent (exact_sent x W s.round q.shard q.ask ∷ [])

-- ---- in a round

-- a search under way, whose messages so far have these entries, in a round that began with so many left
abbrev pub IsUnderWay : Request → World → ℕ → State → List Sent → List ShardAsk → Type 0
IsUnderWay x W left s es rest = (sent : List ExactSent) × WasTold x W s sent × (map exact_entry_of sent ≡ es) × IsInRound left s rest

-- the round begins: some answers are awaited
pub round_begins : (x : Request) (W : World) (s : State) (es : List Sent) → HasHeard x W s es → s.ready ≡ false → IsUnderWay x W (rounds_left s) s es (questions_from 0 s.asks)
round_begins x W s es (sent, told, entries) unready = (sent, told, entries, go (questions_from 0 s.asks) refl)
  where
    go : (all : List ShardAsk) → questions_from 0 s.asks ≡ all → IsInRound (rounds_left s) s all
    go [] e = absurd (false≢true (sym (none_asked 0 s.asks e) ∙ told.goes_on unready))
    go (q ∷ rest) e = (e, refl, unready)

-- what was heard is heard in a round that is over
pub round_over : (x : Request) (W : World) (left : ℕ) (s : State) (es : List Sent) → IsUnderWay x W left s es [] → HasHeard x W s es × (rounds_left s < left)
round_over x W left s es (sent, told, entries, fewer) = ((sent, told, entries), fewer)

-- the next message can be told
pub told_awaited : (laws : AreFindingLaws) (x : Request) (W : World) (left : ℕ) (s : State) (es : List Sent) (q : ShardAsk) (rest : List ShardAsk) (i : ℕ) → IsUnderWay x W left s es (q ∷ rest) → i ≡ q.shard
    → (s.spent ≡ false) × IsTrue (is_awaited s i)
told_awaited laws x W left s es q rest i (sent, told, entries, here) shard = (told.fresh, subst (λ k. IsTrue (is_awaited s k)) (sym shard) (awaited laws x W s sent told left q rest here))

-- and a probe can be told of it
pub told_within : (laws : AreFindingLaws) (x : Request) (W : World) (limits : IsWithinLimits W) (left : ℕ) (s : State) (es : List Sent) (q : ShardAsk) (rest : List ShardAsk) → IsUnderWay x W left s es (q ∷ rest)
    → (1 ≤ s.round) × (s.round ≤ 16) × (q.shard < 64)
told_within laws x W limits left s es q rest (sent, told, entries, here) =
    let low = told.counted.0 in
    let high = told.counted.1 in
    let few = (few_rounds x W).1 in
    let there = shard_there laws x W s sent told left q rest here in
    let shards = limits.shards in
    (low, omega (arith, high, few), omega (arith, there, shards))

-- and the search is under way then too
pub told_then : (laws : AreFindingLaws) (x : Request) (W : World) (left : ℕ) (s new : State) (es : List Sent) (q : ShardAsk) (rest : List ShardAsk) (i : ℕ) (m : Partials) → IsUnderWay x W left s es (q ∷ rest) → i ≡ q.shard → m ≡ exact_answer x W q.shard q.ask
    → new ≡ taken s i m → IsUnderWay x W left new (es ++ record { round = s.round; shard = q.shard; length = length (message_bytes (exact_answer x W q.shard q.ask)) } ∷ []) rest
told_then laws x W left s new es q rest i m (sent, told, entries, here) shard message state =
    let own = exact_answer x W q.shard q.ask in
    let is : new ≡ taken s q.shard own = state ∙ (λ j. taken s (shard j) (message j)) in
    let all = told_more laws x W s sent told left q rest here in
    let one_more : Sent = record { round = s.round; shard = q.shard; length = length (message_bytes own) } in (
      sent ++ exact_sent x W s.round q.shard q.ask ∷ [],
      subst (λ t. WasTold x W t (sent ++ exact_sent x W s.round q.shard q.ask ∷ [])) (sym is) all.0,
      entry laws x W s sent told left q rest here ∙ ap (λ fs. fs ++ one_more ∷ []) entries,
      subst (λ t. IsInRound left t rest) (sym is) all.1,
    )
