-- What workers answer in a round.
use Rattle.std.specs.Prelude.{◌≡◌, ℕ, ◌<◌, List, [], ◌∷◌, length, true, is_some, slice_index_or}
use Rattle.std.specs.Arc.{arc_value}
use Rattle.fc_spec.specs.messages.TopRounds.{exact_answer}
use Rattle.fc_spec.specs.requests.Request.{Request}
use Rattle.fc_request.specs.RequestView.{request_view}
use Rattle.fc_request.specs.declared.request.Request as asked
use Rattle.fc_round.specs.Askable.{IsAskable}
use Rattle.fc_round.specs.Questions.{CanAsk, ShardAnswer}
use Rattle.fc_round.specs.QuestionView.{lent_view}
use Rattle.fc_round.specs.Spelled.{AreBytesOf}
use Rattle.fc_round.specs.declared.slot.Slot.{Slot}

-- the answer of its shard
abbrev pub slot_answer : Request → Slot → ShardAnswer
slot_answer r slot = record { shard = slot.shard; message = exact_answer r ((arc_value slot.generation.now).blocks ∷ []) 0 (lent_view slot.ask) }

-- the request may be asked of its generation, and its ask is one for that request
pub record CanAnswer (request : asked.Request) (slot : Slot) : Type 0 where
  pub askable : IsAskable request (arc_value slot.generation.now)
  pub can : CanAsk (request_view request) (lent_view slot.ask)

-- its message is there: the bytes of the answer
abbrev pub HasAnswer : Request → Slot → Type 0
HasAnswer r slot = AreBytesOf slot.bytes (slot_answer r slot).message

-- what a worker makes of it: the same answer is its shard's, and a message that is there is that
pub record IsAnswered (r : Request) (before after : Slot) : Type 0 where
  pub answer : slot_answer r after ≡ slot_answer r before
  pub told : is_some after.bytes ≡ true → HasAnswer r after

-- so of each of a list
pub record AllAnswered (r : Request) (before after : List Slot) : Type 0 where
  pub count : length after ≡ length before
  pub each : (k : ℕ) (d : Slot) → k < length before → IsAnswered r (slice_index_or before k d) (slice_index_or after k d)
