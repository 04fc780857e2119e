use Rattle.std.proofs.Common.{◌≡◌, ◌≤◌, length, map, refl, sym, subst}
use Rattle.std.specs.Arc.{arc_value}
use Rattle.std.proofs.lemmas.List.Elements.{All-push}
use Rattle.fc_spec.specs.messages.Nesting.{nesting}
use Rattle.fc_request.specs.RequestView.{request_view}
use Rattle.fc_phase.specs.Futures.{phase_of}
use Rattle.fc_round.specs.Askable.{world_of}
use Rattle.fc_round.specs.QuestionView.{lent_view}
use Rattle.fc_round.specs.Seats.{IsSat, seat_answer}
use Rattle.fc_round.proofs.BegunFutures.{begun_answer}
use Rattle.fc_round.proofs.OwnLimits.{own_askable, own_blocks}
use Rattle.fc_round.proofs.QuestionLists.{answers_to, can_be_asked, one_answered}
use Rattle.fc_round.proofs.SeatTurns.{sat_at_first}
use Rattle.fc_round.proofs.seats.seats_of.Goals as goal

pub future_of-requires-clause-askable : goal.future_of-requires-clause-askable
future_of-requires-clause-askable g c =
    let asked = can_be_asked (request_view c.args.request.now) c.args.questions.now c.loop-question.question-index c.question-item.result c.loop-question-test.true c.question-item.is (length c.args.generations.now) c.requires.questions in
    own_askable c.args.request.now c.args.generations.now c.question-item.result.shard c.index-generations-shard.result c.requires.askable asked.0 c.index-generations-shard.is

pub loop-question-preserved : goal.loop-question-preserved
loop-question-preserved g c =
    let was = c.loop-question.invariant in
    let r = request_view c.args.request.now in
    let W = world_of (map arc_value c.args.generations.now) in
    let qs = c.args.questions.now in
    let k = c.loop-question.question-index in
    let q = c.question-item.result in
    let asked = can_be_asked r qs k q c.loop-question-test.true c.question-item.is (length c.args.generations.now) c.requires.questions in
    let generation = c.index-generations-shard.result in
    let blocks = (arc_value generation).blocks in
    let begun = c.in_ok-future.ensures.begun in
    let own = own_blocks c.args.generations.now q.shard generation asked.0 c.index-generations-shard.is in
    let answers = begun_answer c.args.request.now blocks (phase_of c.in_ok-future.future) W q.shard (lent_view q.ask) c.round_laws.ensures.alone begun own in
    let askable = own_askable c.args.request.now c.args.generations.now q.shard generation c.requires.askable asked.0 c.index-generations-shard.is in
    let nests = subst (λ m. nesting m ≤ 9) (sym answers) (c.round_laws.ensures.nest (arc_value generation).schema r W q.shard (lent_view q.ask) askable.valid) in
    record {
      kinds = rw c.in_ok-push.ensures.items (All-push (λ seat. seat.future.kinds.now ≡ c.args.kinds.now) _ _ was.kinds c.in_ok-future.ensures.kinds);
      sat = rw c.in_ok-push.ensures.items (All-push IsSat _ _ was.sat (sat_at_first _ refl begun.fresh nests));
      answers = rw c.in_ok-push.ensures.items (one_answered r qs k q c.loop-question-test.true c.question-item.is W seat_answer c.loop-question.seats.items _ (answers_to r W qs) (λ j. record { shard = q.shard; message = answers j }) was.answers);
    }
