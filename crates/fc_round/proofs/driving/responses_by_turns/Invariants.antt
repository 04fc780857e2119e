use Rattle.std.proofs.Common.{All, map}
use Rattle.std.specs.Arc.{arc_value}
use Rattle.fc_request.specs.RequestView.{request_view}
use Rattle.fc_round.specs.Askable.{world_of}
use Rattle.fc_round.specs.Seats.{HasTold, seat_answer}
use Rattle.fc_round.proofs.QuestionLists.{answers_to}
use Rattle.fc_round.proofs.ResponseLists.{SpellSoFar}
use Rattle.fc_round.proofs.driving.responses_by_turns.Given as goal

-- the seats that are left have the rest
abbrev pub invariant-loop-seat : goal.invariant-loop-seat
invariant-loop-seat g l = record {
  told : All HasTold l.seat-iterator.rest.items;
  so_far : SpellSoFar l.responses.items (map seat_answer l.seat-iterator.rest.items) (answers_to (request_view l.request) (world_of (map arc_value l.generations)) l.questions);
}
