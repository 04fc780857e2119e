-- The seats of a round.
use Rattle.std.specs.Prelude.{◌≡◌, ℕ, ◌+◌, ◌-◌, ◌≤◌, false, true, is_some}
use Rattle.fc_spec.specs.messages.Nesting.{nesting}
use Rattle.fc_phase.specs.Futures.{phase_of}
use Rattle.fc_phase.specs.Phases.{Phase, answer_of, units_of}
use Rattle.fc_round.specs.Questions.{ShardAnswer}
use Rattle.fc_round.specs.Spelled.{AreBytesOf}
use Rattle.fc_round.specs.declared.seat.Seat.{Seat}

abbrev pub phase_in : {B : Type 0} {Q : B → Type 0} → Seat B Q → Phase
phase_in seat = phase_of seat.future

-- what comes of it
abbrev pub seat_answer : {B : Type 0} {Q : B → Type 0} → Seat B Q → ShardAnswer
seat_answer seat = record { shard = seat.shard; message = answer_of (phase_in seat) }

-- the units that its future has still to do
abbrev pub units_left : {B : Type 0} {Q : B → Type 0} → Seat B Q → ℕ
units_left seat = units_of (phase_in seat) - (phase_in seat).done

-- its message is not there yet
abbrev pub Waits : {B : Type 0} {Q : B → Type 0} → Seat B Q → Type 0
Waits seat = is_some seat.bytes ≡ false

-- its message is there: the bytes of the answer
abbrev pub HasTold : {B : Type 0} {Q : B → Type 0} → Seat B Q → Type 0
HasTold seat = AreBytesOf seat.bytes (answer_of (phase_in seat))

-- its future goes on until its message is there, which nests no deeper than bytes can spell
pub record IsSat {B : Type 0} {Q : B → Type 0} (seat : Seat B Q) : Type 0 where
  pub waits : Waits seat → (phase_in seat).spent ≡ false
  pub told : is_some seat.bytes ≡ true → HasTold seat
  pub nests : nesting (answer_of (phase_in seat)) ≤ 9

-- what a turn makes of a seat: the same answer comes of it, and one unit less is left
pub record IsTurned {B : Type 0} {Q : B → Type 0} (before after : Seat B Q) : Type 0 where
  pub answer : seat_answer after ≡ seat_answer before
  pub one : units_left after + 1 ≡ units_left before
  pub sat : IsSat after
