-- The responses of a round that are left, and what comes of the first.
use Rattle.std.proofs.Common.{◌≡◌, ℕ, ◌+◌, ◌<◌, ◌≤◌, List, [], ◌∷◌, ◌++◌, length, false, Option, IsTrue, refl, sym, ◌∙◌, ap, subst, arith}
use Rattle.std.specs.Prelude.{option_map}
use Rattle.fc_spec.specs.documents.World.{World}
use Rattle.fc_spec.specs.requests.Request.{Request}
use Rattle.fc_spec.specs.messages.Message.{Partials}
use Rattle.fc_spec.specs.messages.MessageBytes.{message_bytes}
use Rattle.fc_spec.specs.messages.Nesting.{Spells}
use Rattle.fc_spec.specs.messages.Held.{Told}
use Rattle.fc_spec.specs.messages.Lacks.{terms_depth}
use Rattle.fc_spec.specs.messages.Trace.{Sent}
use Rattle.fc_spec.specs.messages.Lengths.{Lengths, put}
use Rattle.fc_spec.specs.messages.WholeTrace.{behind_rounds}
use Rattle.fc_spec.specs.scripts.WorldLimits.{IsWithinLimits}
use Rattle.fc_coord.specs.State.{State, is_awaited, is_fitting, taken, told_of}
use Rattle.fc_coord.specs.Keeps.{Keeps}
use Rattle.fc_round.specs.Questions.{ShardAnswer}
use Rattle.fc_round.specs.Responses.{SpellAnswers}
use Rattle.fc_round.specs.Spelled.{SpellSome}
use Rattle.fc_round.specs.declared.response.Response.{Response}
use Rattle.fc_tops.proofs.Spelled.{same_message, spelled_length}
use Rattle.fc_search.specs.Hearing.{HeardSince, IsHearing, awaited_answers, rounds_left}
use Rattle.fc_search.specs.SearchLaws.{AreTellingLaws}
use Rattle.fc_search.proofs.Heard.{IsSoFar, heard_since, since_hears, so_far_more, so_far_none, under_way_now}
use Rattle.fc_search.proofs.Told.{IsUnderWay, round_over, told_awaited, told_then, told_within}

-- they spell the answers that are still awaited, and the probe was told of the others
pub record AreLeft (r : Request) (W : World) (behind : ℕ) (start s : State) (old now : Option Lengths) (responses : List Response) : Type 0 where
  pub answers : List ShardAnswer
  pub spelled : SpellAnswers responses answers
  pub so_far : IsSoFar r W behind start s old now answers

pub all_left : (r : Request) (W : World) (behind : ℕ) (s : State) (o : Option Lengths) (responses : List Response) → s.ready ≡ false → SpellAnswers responses (awaited_answers r W s) → AreLeft r W behind s s o o responses
all_left r W behind s o responses unready spelled = record { answers = awaited_answers r W s; spelled = spelled; so_far = so_far_none r W behind s o unready }

-- ---- the first of them

record IsNext (r : Request) (W : World) (behind : ℕ) (start s : State) (old now : Option Lengths) (one : Response) (rest : List Response) : Type 0 where
  answer : ShardAnswer
  others : List ShardAnswer
  shard : one.shard ≡ answer.shard
  bytes : Spells one.bytes.items answer.message
  spelled : SpellAnswers rest others
  so_far : IsSoFar r W behind start s old now (answer ∷ others)

next_left : (r : Request) (W : World) (behind : ℕ) (start s : State) (old now : Option Lengths) (one : Response) (rest : List Response) → AreLeft r W behind start s old now (one ∷ rest) → IsNext r W behind start s old now one rest
next_left r W behind start s old now one rest left = go left.answers left.spelled left.so_far
  where
    go : (answers : List ShardAnswer) → SpellAnswers (one ∷ rest) answers → IsSoFar r W behind start s old now answers → IsNext r W behind start s old now one rest
    go [] spelled so_far = absurd spelled
    go (a ∷ answers) spelled so_far = record { answer = a; others = answers; shard = spelled.0; bytes = spelled.1; spelled = spelled.2; so_far = so_far }

module _ (laws : AreTellingLaws) (r : Request) (W : World) (limits : IsWithinLimits W) (behind : ℕ) (start s : State) (old now : Option Lengths) (one : Response) (rest : List Response) (hearing : IsHearing r W start) (left : AreLeft r W behind start s old now (one ∷ rest)) where
  next : IsNext r W behind start s old now one rest
  next = next_left r W behind start s old now one rest left

  under_way : (es : List Sent) × IsUnderWay r W (rounds_left start) s es (next.answer ∷ next.others)
  under_way = under_way_now r W behind start s old now (next.answer ∷ next.others) hearing next.so_far

  -- its bytes are those of a message, of that alone
  pub first_spelled : SpellSome one.bytes.items
  first_spelled = (next.answer.message, next.bytes)

  is_message : (m : Partials) → Spells one.bytes.items m → m ≡ next.answer.message
  is_message m spelled = same_message laws.spelled one.bytes.items one.bytes.items m next.answer.message refl spelled next.bytes

  -- the probe can be told of it
  pub first_within : behind ≤ 3 → terms_depth r.nodes ≤ 8 → (1 ≤ behind + s.round) × (behind + s.round ≤ 16) × (one.shard < 64)
  first_within before few =
      let within = told_within laws r W limits (rounds_left start) s under_way.0 next.answer next.others under_way.1 few in
      let low = within.0 in
      let high = within.1 in
      (omega (arith, low), omega (arith, high, before), subst (λ k. k < 64) (sym next.shard) within.2)

  -- the coordinator can take it
  pub first_awaited : (m : Partials) → Spells one.bytes.items m → (s.spent ≡ false) × IsTrue (is_awaited s one.shard) × IsTrue (is_fitting s one.shard m)
  first_awaited m spelled = told_awaited laws r W limits (rounds_left start) s under_way.0 next.answer next.others one.shard m under_way.1 next.shard (is_message m spelled)

  -- and then the rest are left
  pub rest_left : (new : State) (then : Option Lengths) (round size : ℕ) (m : Partials) → Spells one.bytes.items m → round ≡ behind + s.round → size ≡ length one.bytes.items
      → then ≡ option_map (put (record { round = round; shard = one.shard; length = size })) now
      → ((A : List Told) → Keeps s A → Keeps new (A ++ told_of s one.shard m)) → ((A : List Told) → Keeps s A → new ≡ taken s A one.shard m) → AreLeft r W behind start new old then rest
  rest_left new then round size m spelled same long is kept state = record {
    answers = next.others;
    spelled = next.spelled;
    so_far = so_far_more r W behind start s new old now then e next.answer next.others next.so_far put_is (
        λ es way. subst (λ f. IsUnderWay r W (rounds_left start) new (es ++ f ∷ []) next.others) entry
        (told_then laws r W limits (rounds_left start) s new es next.answer next.others one.shard m way next.shard (is_message m spelled) kept state)
        );
  }
    where
      e : Sent
      e = record { round = s.round; shard = one.shard; length = size }

      put_is : then ≡ option_map (put (behind_rounds behind e)) now
      put_is = is ∙ ap (λ k. option_map (put (record { round = k; shard = one.shard; length = size })) now) same

      own : Sent
      own = record { round = s.round; shard = next.answer.shard; length = length (message_bytes next.answer.message) }

      size_is : length (message_bytes next.answer.message) ≡ size
      size_is = sym (spelled_length one.bytes.items next.answer.message next.bytes) ∙ sym long

      entry : own ≡ e
      entry = λ j. record { round = s.round; shard = sym next.shard j; length = size_is j }

-- ---- the round is over

module _ (r : Request) (W : World) (behind : ℕ) (start s : State) (old now : Option Lengths) (hearing : IsHearing r W start) (left : AreLeft r W behind start s old now []) where
  none_left : IsSoFar r W behind start s old now []
  none_left = go left.answers left.spelled left.so_far
    where
      go : (answers : List ShardAnswer) → SpellAnswers [] answers → IsSoFar r W behind start s old now answers → IsSoFar r W behind start s old now []
      go [] spelled so_far = so_far
      go (a ∷ answers) spelled so_far = absurd spelled

  pub over_told : HeardSince r W behind start s old now
  over_told = heard_since r W behind start s old now none_left

  pub over_hears : IsHearing r W s
  over_hears = since_hears r W behind start s old now hearing over_told

  pub over_fewer : rounds_left s < rounds_left start
  over_fewer =
      let way = under_way_now r W behind start s old now [] hearing none_left in
      (round_over r W (rounds_left start) s way.0 way.1).1
