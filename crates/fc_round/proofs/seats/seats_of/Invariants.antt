use Rattle.std.proofs.Common.{◌≡◌, ◌++◌, All, drop, map}
use Rattle.std.specs.Arc.{arc_value}
use Rattle.fc_request.specs.RequestView.{request_view}
use Rattle.fc_round.specs.Askable.{world_of}
use Rattle.fc_round.specs.Seats.{IsSat, seat_answer}
use Rattle.fc_round.proofs.QuestionLists.{answers_to}
use Rattle.fc_round.proofs.seats.seats_of.Given as goal

-- the questions so far have their seats
abbrev pub invariant-loop-question : goal.invariant-loop-question
invariant-loop-question g l = record {
  kinds : All (λ seat. seat.future.kinds.now ≡ l.kinds) l.seats.items;
  sat : All IsSat l.seats.items;
  answers : map seat_answer l.seats.items ++ answers_to (request_view l.request) (world_of (map arc_value l.generations)) (drop l.question-index l.questions)
      ≡ answers_to (request_view l.request) (world_of (map arc_value l.generations)) l.questions;
}
