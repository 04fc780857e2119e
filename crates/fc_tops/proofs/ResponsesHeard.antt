-- The responses of a round that are left, and what comes of the first.
use Rattle.std.proofs.Common.{◌≡◌, ℕ, ◌<◌, ◌≤◌, List, [], ◌∷◌, ◌++◌, map, length, false, Option, IsTrue, refl, sym, ◌∙◌, subst}
use Rattle.std.specs.Prelude.{option_map}
use Rattle.fc_spec.specs.documents.World.{World}
use Rattle.fc_spec.specs.requests.Request.{Request}
use Rattle.fc_spec.specs.messages.Message.{Partials}
use Rattle.fc_spec.specs.messages.MessageBytes.{message_bytes}
use Rattle.fc_spec.specs.messages.Nesting.{Spells}
use Rattle.fc_spec.specs.messages.TopRounds.{exact_answer}
use Rattle.fc_spec.specs.messages.Trace.{Sent}
use Rattle.fc_spec.specs.messages.Lengths.{Lengths, put}
use Rattle.fc_spec.specs.scripts.WorldLimits.{IsWithinLimits}
use Rattle.fc_exact.specs.Rounds.{rounds_left}
use Rattle.fc_exact.specs.State.{State, is_awaited, taken}
use Rattle.fc_round.specs.Questions.{ShardAsk, answered}
use Rattle.fc_round.specs.Responses.{SpellAnswers}
use Rattle.fc_round.specs.Spelled.{SpellSome}
use Rattle.fc_round.specs.declared.response.Response.{Response}
use Rattle.fc_tops.specs.Asked.{questions_from}
use Rattle.fc_tops.specs.FindingLaws.{AreFindingLaws}
use Rattle.fc_tops.specs.Hearing.{HeardSince, IsHearing}
use Rattle.fc_tops.proofs.Heard.{IsSoFar, heard_since, since_hears, so_far_more, so_far_none, under_way_now}
use Rattle.fc_tops.proofs.Spelled.{same_message, spelled_length}
use Rattle.fc_tops.proofs.Told.{IsUnderWay, round_over, told_awaited, told_then, told_within}

-- they spell the answers to the questions that are left, and the probe was told of the others
pub record AreLeft (x : Request) (W : World) (start s : State) (old now : Option Lengths) (responses : List Response) : Type 0 where
  pub questions : List ShardAsk
  pub spelled : SpellAnswers responses (map (answered x W) questions)
  pub so_far : IsSoFar x W start s old now questions

pub all_left : (x : Request) (W : World) (s : State) (o : Option Lengths) (responses : List Response) → s.ready ≡ false → SpellAnswers responses (map (answered x W) (questions_from 0 s.asks)) → AreLeft x W s s o o responses
all_left x W s o responses unready spelled = record { questions = questions_from 0 s.asks; spelled = spelled; so_far = so_far_none x W s o unready }

-- ---- the first of them

record IsNext (x : Request) (W : World) (start s : State) (old now : Option Lengths) (one : Response) (rest : List Response) : Type 0 where
  question : ShardAsk
  others : List ShardAsk
  shard : one.shard ≡ question.shard
  bytes : Spells one.bytes.items (exact_answer x W question.shard question.ask)
  spelled : SpellAnswers rest (map (answered x W) others)
  so_far : IsSoFar x W start s old now (question ∷ others)

next_left : (x : Request) (W : World) (start s : State) (old now : Option Lengths) (one : Response) (rest : List Response) → AreLeft x W start s old now (one ∷ rest) → IsNext x W start s old now one rest
next_left x W start s old now one rest left = go left.questions left.spelled left.so_far
  where
    go : (questions : List ShardAsk) → SpellAnswers (one ∷ rest) (map (answered x W) questions) → IsSoFar x W start s old now questions → IsNext x W start s old now one rest
    go [] spelled so_far = absurd spelled
    go (q ∷ questions) spelled so_far = record { question = q; others = questions; shard = spelled.0; bytes = spelled.1; spelled = spelled.2; so_far = so_far }

module _ (laws : AreFindingLaws) (x : Request) (W : World) (limits : IsWithinLimits W) (start s : State) (old now : Option Lengths) (one : Response) (rest : List Response) (hearing : IsHearing x W start) (left : AreLeft x W start s old now (one ∷ rest)) where
  next : IsNext x W start s old now one rest
  next = next_left x W start s old now one rest left

  abbrev own : Partials
  own = exact_answer x W next.question.shard next.question.ask

  under_way : (es : List Sent) × IsUnderWay x W (rounds_left start) s es (next.question ∷ next.others)
  under_way = under_way_now x W start s old now (next.question ∷ next.others) hearing next.so_far

  -- its bytes are those of a message, of that alone
  pub first_spelled : SpellSome one.bytes.items
  first_spelled = (own, next.bytes)

  is_message : (m : Partials) → Spells one.bytes.items m → m ≡ own
  is_message m spelled = same_message laws.spelled one.bytes.items one.bytes.items m own refl spelled next.bytes

  -- the probe can be told of it
  pub first_within : (1 ≤ s.round) × (s.round ≤ 16) × (one.shard < 64)
  first_within =
      let within = told_within laws x W limits (rounds_left start) s under_way.0 next.question next.others under_way.1 in
      (within.0, within.1, subst (λ k. k < 64) (sym next.shard) within.2)

  -- the core can take it
  pub first_awaited : (s.spent ≡ false) × IsTrue (is_awaited s one.shard)
  first_awaited = told_awaited laws x W (rounds_left start) s under_way.0 next.question next.others one.shard under_way.1 next.shard

  -- and then the rest are left
  pub rest_left : (new : State) (then : Option Lengths) (round size : ℕ) (m : Partials) → Spells one.bytes.items m → round ≡ s.round → size ≡ length one.bytes.items
      → then ≡ option_map (put (record { round = round; shard = one.shard; length = size })) now
      → new ≡ taken s one.shard m → AreLeft x W start new old then rest
  rest_left new then round size m spelled same long is state = record {
    questions = next.others;
    spelled = next.spelled;
    so_far = so_far_more x W start s new old now then e next.question next.others next.so_far is (
        λ es way. subst (λ f. IsUnderWay x W (rounds_left start) new (es ++ f ∷ []) next.others) entry
        (told_then laws x W (rounds_left start) s new es next.question next.others one.shard m way next.shard (is_message m spelled) state)
        );
  }
    where
      e : Sent
      e = record { round = round; shard = one.shard; length = size }

      was : Sent
      was = record { round = s.round; shard = next.question.shard; length = length (message_bytes own) }

      size_is : length (message_bytes own) ≡ size
      size_is = sym (spelled_length one.bytes.items own next.bytes) ∙ sym long

      entry : was ≡ e
      entry = λ j. record { round = sym same j; shard = sym next.shard j; length = size_is j }

-- ---- the round is over

module _ (x : Request) (W : World) (start s : State) (old now : Option Lengths) (hearing : IsHearing x W start) (left : AreLeft x W start s old now []) where
  none_left : IsSoFar x W start s old now []
  none_left = go left.questions left.spelled left.so_far
    where
      go : (questions : List ShardAsk) → SpellAnswers [] (map (answered x W) questions) → IsSoFar x W start s old now questions → IsSoFar x W start s old now []
      go [] spelled so_far = so_far
      go (q ∷ questions) spelled so_far = absurd spelled

  pub over_told : HeardSince x W start s old now
  over_told = heard_since x W start s old now none_left

  pub over_hears : IsHearing x W s
  over_hears = since_hears x W start s old now hearing over_told

  pub over_fewer : rounds_left s < rounds_left start
  over_fewer =
      let way = under_way_now x W start s old now [] hearing none_left in
      (round_over x W (rounds_left start) s way.0 way.1).1
