use Rattle.std.proofs.Common.{All, map}
use Rattle.std.specs.Arc.{arc_value}
use Rattle.fc_request.specs.RequestView.{request_view}
use Rattle.fc_round.specs.Askable.{world_of}
use Rattle.fc_round.specs.Slots.{slot_answer}
use Rattle.fc_round.proofs.QuestionLists.{answers_to}
use Rattle.fc_round.proofs.ResponseLists.{SpellSoFar}
use Rattle.fc_round.proofs.SlotLists.{TellsIfThere}
use Rattle.fc_round.proofs.workers.responses_by_workers.Given as goal

-- those that are left have the rest
abbrev pub invariant-loop-slot : goal.invariant-loop-slot
invariant-loop-slot g l = record {
  tells : All (TellsIfThere (request_view l.request)) l.slot-iterator.rest.items;
  so_far : SpellSoFar l.responses.items (map (slot_answer (request_view l.request)) l.slot-iterator.rest.items) (answers_to (request_view l.request) (world_of (map arc_value l.generations)) l.fn.questions);
}
