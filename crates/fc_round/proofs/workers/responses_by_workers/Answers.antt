use Rattle.std.proofs.Common.{◌≡◌, All, map, sym, ◌∙◌, ap, subst}
use Rattle.std.specs.Arc.{arc_value}
use Rattle.std.proofs.lemmas.List.{nil_from_length}
use Rattle.std.proofs.lemmas.List.Elements.{All-head, All-rest}
use Rattle.fc_request.specs.RequestView.{request_view}
use Rattle.fc_round.specs.Askable.{world_of}
use Rattle.fc_round.specs.Slots.{AllAnswered, slot_answer}
use Rattle.fc_round.proofs.QuestionLists.{answers_to}
use Rattle.fc_round.proofs.ResponseLists.{SpellSoFar, all_so_far, none_so_far, one_so_far}
use Rattle.fc_round.proofs.SeatLists.{written_back}
use Rattle.fc_round.proofs.SlotLists.{TellsIfThere, answers_same, each_tells, slot_tells}
use Rattle.fc_round.proofs.workers.responses_by_workers.Goals as goal

pub loop-slot-init : goal.loop-slot-init
loop-slot-init g c =
    let r = request_view c.args.request.now in
    let all = answers_to r (world_of (map arc_value c.args.generations.now)) c.args.questions.now in
    let slots = c.in_ok-slots.slots in
    let new = c.answer_each.new.slots in
    let are : AllAnswered r slots.items new = subst (λ before. AllAnswered r before new) c.deref_mut.ensures.value c.answer_each.ensures in
    let long = sym slots.ok.0 in
    let rest : c.into_iter-slot-iterator.result.rest.items ≡ new = c.into_iter-slot-iterator.ensures.into_iter_gives.0 ∙ written_back slots.len new slots.items (are.count ∙ long) long in
    record {
      tells = subst (All (TellsIfThere r)) (sym rest) (each_tells r slots.items new are);
      so_far = rw c.in_ok-responses.ensures.items (none_so_far (map (slot_answer r) c.into_iter-slot-iterator.result.rest.items) all (ap (map (slot_answer r)) rest ∙ answers_same r slots.items new are ∙ c.in_ok-slots.ensures.answers));
    }

pub loop-slot-preserved : goal.loop-slot-preserved
loop-slot-preserved g c =
    let r = request_view c.args.request.now in
    let all = answers_to r (world_of (map arc_value c.args.generations.now)) c.args.questions.now in
    let slot = c.in-Some.slot in
    let rest = c.next.new.self.rest.items in
    let first = c.in-Some.ensures.steps.0 in
    let response = c.in_ok-response.response in
    let was = subst (λ slots. SpellSoFar c.loop-slot.responses.items (map (slot_answer r) slots) all) first c.loop-slot.invariant.so_far in
    let tells = All-head (TellsIfThere r) slot rest (subst (All (TellsIfThere r)) first c.loop-slot.invariant.tells) in
    record {
      tells = All-rest (TellsIfThere r) slot rest c.loop-slot.slot-iterator.rest.items first c.loop-slot.invariant.tells;
      so_far = rw c.in_ok-push.ensures.items (one_so_far c.loop-slot.responses.items response (slot_answer r slot) (map (slot_answer r) rest) all c.in_ok-response.ensures.shard (slot_tells r slot response.bytes tells c.in_ok-response.ensures.bytes) was);
    }

pub returns : goal.returns
returns g c =
    let r = request_view c.args.request.now in
    let all = answers_to r (world_of (map arc_value c.args.generations.now)) c.args.questions.now in
    let slots = c.loop-slot.slot-iterator.rest in
    let none = nil_from_length slots.items (sym slots.ok.0 ∙ c.in-None.ensures.steps.0) in
    all_so_far c.loop-slot.responses.items (map (slot_answer r) slots.items) all (ap (map (slot_answer r)) none) c.loop-slot.invariant.so_far
