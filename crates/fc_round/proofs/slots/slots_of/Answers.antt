use Rattle.std.proofs.Common.{length, map}
use Rattle.std.specs.Arc.{arc_value}
use Rattle.std.proofs.lemmas.List.Elements.{All-push}
use Rattle.fc_request.specs.RequestView.{request_view}
use Rattle.fc_round.specs.Askable.{world_of}
use Rattle.fc_round.specs.Slots.{CanAnswer, slot_answer}
use Rattle.fc_round.proofs.OwnLimits.{own_askable, own_blocks}
use Rattle.fc_round.proofs.QuestionLists.{answers_to, can_be_asked, one_answered}
use Rattle.fc_round.proofs.SlotLists.{own_answer}
use Rattle.fc_round.proofs.slots.slots_of.Goals as goal

pub loop-question-preserved : goal.loop-question-preserved
loop-question-preserved c =
    let was = c.loop-question.invariant in
    let r = request_view c.args.request.now in
    let W = world_of (map arc_value c.args.generations.now) in
    let qs = c.args.questions.now in
    let k = c.loop-question.question-index in
    let q = c.question-item.result in
    let asked = can_be_asked r qs k q c.loop-question-test.true c.question-item.is (length c.args.generations.now) c.requires.questions in
    let generation = c.index-generations-shard.result in
    let there = own_blocks c.args.generations.now q.shard generation asked.0 c.index-generations-shard.is in
    let askable = own_askable c.args.request.now c.args.generations.now q.shard generation c.requires.askable asked.0 c.index-generations-shard.is in
    record {
      can = rw c.in_ok-push.ensures.items (All-push (CanAnswer c.args.request.now) _ _ was.can (record { askable = askable; can = asked.1 }));
      answers = rw c.in_ok-push.ensures.items (one_answered r qs k q c.loop-question-test.true c.question-item.is W (slot_answer r) c.loop-question.slots.items _ (answers_to r W qs) (own_answer r W q (arc_value generation).blocks c.round_laws.ensures.alone there) was.answers);
    }
