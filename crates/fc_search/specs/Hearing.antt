-- A search under way: what its coordinator was told are answers of the shards of a world.
use Rattle.std.specs.Prelude.{◌≡◌, ℕ, suc, ◌+◌, ◌-◌, ◌<◌, ◌≤◌, List, [], ◌∷◌, ◌++◌, map, length, true, false, is_some, Option, None, Some, option_map, if◌then◌else◌}
use Rattle.std.specs.List.{AllByRecursion, list_any}
use Rattle.fc_spec.specs.documents.World.{World}
use Rattle.fc_spec.specs.requests.Request.{Request}
use Rattle.fc_spec.specs.messages.Message.{Ask}
use Rattle.fc_spec.specs.messages.Answer.{answer}
use Rattle.fc_spec.specs.messages.Lacks.{terms_depth}
use Rattle.fc_spec.specs.messages.Rounds.{SentMessage, told_in, sent_by, rounds_from, search_rounds}
use Rattle.fc_spec.specs.messages.Trace.{Sent, entry_of}
use Rattle.fc_spec.specs.messages.Lengths.{Lengths, put_all}
use Rattle.fc_spec.specs.messages.WholeTrace.{behind_rounds}
use Rattle.fc_spec.specs.laws.Merging.{IsAnswer}
use Rattle.fc_coord.specs.State.{State, ask_at}
use Rattle.fc_coord.specs.Keeps.{Keeps}
use Rattle.fc_units.specs.Asked.{asked_count}
use Rattle.fc_round.specs.Questions.{ShardAnswer}

-- the answers to asks of shards, of which the first has the number i: of each shard that is asked something
abbrev pub answers_from : Request → World → ℕ → List (Option Ask) → List ShardAnswer
answers_from r W i [] = []
answers_from r W i (None ∷ asks) = answers_from r W (suc i) asks
answers_from r W i (Some ask ∷ asks) = record { shard = i; message = answer r W i ask } ∷ answers_from r W (suc i) asks

-- the answers that are awaited, in the order of the shards
abbrev pub awaited_answers : Request → World → State → List ShardAnswer
awaited_answers r W s = answers_from r W 0 s.asks

-- the messages of a round that answer asks of shards, of which the first has the number i
abbrev pub messages_from : Request → World → (round i : ℕ) → List (Option Ask) → List SentMessage
messages_from r W round i [] = []
messages_from r W round i (None ∷ asks) = messages_from r W round (suc i) asks
messages_from r W round i (Some ask ∷ asks) = sent_by r W round i ask ∷ messages_from r W round (suc i) asks

abbrev pub awaited_messages : Request → World → State → List SentMessage
awaited_messages r W s = messages_from r W s.round 0 s.asks

-- the messages so far, those that are awaited, and those of the rounds behind this one; nothing more, once the reply can be made
abbrev pub all_messages : Request → World → State → List SentMessage → List SentMessage
all_messages r W s sent = if s.ready then sent else rounds_from r W (terms_depth r.nodes + 1 - s.round) (suc s.round) (sent ++ awaited_messages r W s)

-- the coordinator of the request was told these answers of the world's shards, and keeps what they tell; who is asked for buckets is asked for one at least; and until the reply can be made some shard is awaited. They are the messages of the search so far
pub record WasTold (r : Request) (W : World) (s : State) (sent : List SentMessage) : Type 0 where
  pub request : s.request ≡ r
  pub shards : length s.asks ≡ length W
  pub kept : Keeps s (told_in r.nodes sent)
  pub answers : AllByRecursion (IsAnswer r W) sent
  pub fresh : s.spent ≡ false
  pub asks : (i : ℕ) (ask : Ask) → ask_at s.asks i ≡ Some ask → 0 < asked_count ask
  pub goes_on : s.ready ≡ false → list_any is_some s.asks ≡ true
  pub rounds : all_messages r W s sent ≡ search_rounds r W
  pub counted : (1 ≤ s.round) × (s.round ≤ terms_depth r.nodes + 1)

abbrev pub IsHearing : Request → World → State → Type 0
IsHearing r W s = (sent : List SentMessage) × WasTold r W s sent

-- how many rounds there are at most from this one on; none once the reply can be made
abbrev pub rounds_left : State → ℕ
rounds_left s = if s.ready then 0 else suc (terms_depth s.request.nodes + 1 - s.round)

-- a search under way whose messages so far have these entries
abbrev pub HasHeard : Request → World → State → List Sent → Type 0
HasHeard r W s es = (sent : List SentMessage) × WasTold r W s sent × (map entry_of sent ≡ es)

-- some entries are put into a map, as those of rounds behind so many others, and they are those of the messages that were told since
pub record HeardSince (r : Request) (W : World) (behind : ℕ) (before after : State) (old new : Option Lengths) : Type 0 where
  pub entries : List Sent
  pub put : new ≡ option_map (put_all (map (behind_rounds behind) entries)) old
  pub heard : (es : List Sent) → HasHeard r W before es → HasHeard r W after (es ++ entries)

-- all that was told so far is put into the map
pub record IsTraced (r : Request) (W : World) (behind : ℕ) (s : State) (old new : Option Lengths) : Type 0 where
  pub entries : List Sent
  pub put : new ≡ option_map (put_all (map (behind_rounds behind) entries)) old
  pub heard : HasHeard r W s entries
