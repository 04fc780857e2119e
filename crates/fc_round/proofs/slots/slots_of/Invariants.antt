use Rattle.std.proofs.Common.{◌≡◌, ◌++◌, All, drop, map}
use Rattle.std.specs.Arc.{arc_value}
use Rattle.fc_request.specs.RequestView.{request_view}
use Rattle.fc_round.specs.Askable.{world_of}
use Rattle.fc_round.specs.Slots.{CanAnswer, slot_answer}
use Rattle.fc_round.proofs.QuestionLists.{answers_to}
use Rattle.fc_round.proofs.slots.slots_of.Given as goal

-- the questions so far have theirs
abbrev pub invariant-loop-question : goal.invariant-loop-question
invariant-loop-question l = record {
  can : All (CanAnswer l.fn.request) l.slots.items;
  answers : map (slot_answer (request_view l.fn.request)) l.slots.items ++ answers_to (request_view l.fn.request) (world_of (map arc_value l.generations)) (drop l.question-index l.questions)
      ≡ answers_to (request_view l.fn.request) (world_of (map arc_value l.generations)) l.questions;
}
