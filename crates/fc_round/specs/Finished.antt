-- Seats whose futures have done all their turns.
use Rattle.std.specs.Prelude.{◌≡◌, true, is_some}
use Rattle.fc_round.specs.Seats.{HasTold, seat_answer}
use Rattle.fc_round.specs.declared.seat.Seat.{Seat}

-- what all its turns make of a seat: the same answer comes of it, and a message that is there is the answer
pub record IsFinished {B : Type 0} {Q : B → Type 0} (before after : Seat B Q) : Type 0 where
  pub answer : seat_answer after ≡ seat_answer before
  pub told : is_some after.bytes ≡ true → HasTold after
