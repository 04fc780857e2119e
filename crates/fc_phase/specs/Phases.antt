-- What a shard's future shows.
use Rattle.std.specs.Prelude.{◌≡◌, ℕ, ◌+◌, ◌<◌, List, [], ◌∷◌, Bool, true, Option, None, Some, Result, Ok, Err}
use Rattle.fc_spec.specs.documents.Document.{Block}
use Rattle.fc_spec.specs.messages.Answer.{answer}
use Rattle.fc_spec.specs.messages.Message as message
use Rattle.fc_spec.specs.messages.Message.{Partials}
use Rattle.fc_spec.specs.messages.TopRounds.{exact_answer, exact_least}
use Rattle.fc_spec.specs.requests.Request as definition
use Rattle.fc_request.specs.RequestView.{request_view}
use Rattle.fc_request.specs.declared.request.Request.{Request}
use Rattle.fc_refine.specs.AskView.{ask_view}
use Rattle.fc_refine.specs.declared.ask.Ask.{Ask}
use Rattle.fc_partial.specs.BucketView.{message_view}
use Rattle.fc_partial.specs.declared.bucket.Message.{Message}
use Rattle.fc_base.specs.declared.error.WantMemory.{WantMemory}
use Rattle.fc_levels.specs.Jobs.{left_after, units}
use Rattle.futures.specs.declared.task.Poll.{Poll}
use Rattle.futures.specs.declared.task.Poll.TheVariants.{Ready, Pending as Waiting}
use Rattle.fc_phase.specs.declared.turn.Turn.{Turn}
use Rattle.fc_phase.specs.declared.turn.Turn.TheVariants.{Done, Pending}

-- the request and the ask, or the counts from which on values are asked for; the shard's blocks and how many segments they stand in; how many units are done, and whether it is over
pub record Phase : Type 0 where
  pub request : Request
  pub ask : Ask
  pub least : Option (List ℕ)
  pub blocks : List Block
  pub segments : ℕ
  pub done : ℕ
  pub spent : Bool

-- the answer of a shard with these blocks to an ask, or from counts on where there are some
abbrev pub message_for : definition.Request → List Block → message.Ask → Option (List ℕ) → Partials
message_for r blocks ask None = answer r (blocks ∷ []) 0 ask
message_for r blocks ask (Some ns) = exact_answer r (blocks ∷ []) 0 (exact_least ns)

-- the message that comes: the shard's answer, which its blocks alone determine
abbrev pub answer_of : Phase → Partials
answer_of p = message_for (request_view p.request) p.blocks (ask_view p.ask) p.least

abbrev pub units_of : Phase → ℕ
units_of p = units p.segments (answer_of p)

-- the units of known jobs that are not done
abbrev pub left_of : Phase → ℕ
left_of p = left_after p.segments (answer_of p) p.done

-- one unit more is done
abbrev pub one_more : Phase → Phase
one_more p = record p { done = p.done + 1 }

abbrev pub over : Phase → Phase
over p = record p { spent = true }

-- one turn: the answer, where the last unit is done; or there are units left, of jobs that are known too
abbrev pub TurnsTo : Phase → Phase → Turn → Type 0
TurnsTo before after (Done message) = (message_view message ≡ answer_of before) × (before.done + 1 ≡ units_of before) × (after ≡ over (one_more before)) × (left_of after ≡ 0)
TurnsTo before after Pending = (before.done + 1 < units_of before) × (after ≡ one_more before) × (0 < left_of after)

-- or memory was wanting, and there is no further turn
abbrev pub Turned : Phase → Phase → Result Turn WantMemory → Type 0
Turned before after (Ok turn) = TurnsTo before after turn
Turned before after (Err want) = after ≡ over before

-- a poll is one turn
abbrev pub Polled : Phase → Phase → Poll (Result Message WantMemory) → Type 0
Polled before after (Ready (Ok message)) = TurnsTo before after (Done message)
Polled before after (Ready (Err want)) = after ≡ over before
Polled before after Waiting = TurnsTo before after Pending

-- a message that comes is the answer
abbrev pub GivesAnswer : Partials → Result Message WantMemory → Type 0
GivesAnswer answer (Ok message) = message_view message ≡ answer
GivesAnswer answer (Err want) = Unit {0}
