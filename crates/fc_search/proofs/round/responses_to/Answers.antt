use Rattle.std.proofs.Common.{All, length, map, sym, ◌∙◌, ap, subst}
use Rattle.std.specs.Arc.{arc_value}
use Rattle.fc_request.specs.RequestView.{request_view}
use Rattle.fc_coord.specs.CoordView.{state_view}
use Rattle.fc_round.specs.Askable.{world_of}
use Rattle.fc_round.specs.QuestionView.{question_view}
use Rattle.fc_round.specs.Questions.{CanBeAsked, answered}
use Rattle.fc_round.specs.Responses.{SpellAnswers}
use Rattle.fc_round.proofs.OwnLimits.{length-world}
use Rattle.fc_search.proofs.Asked.{all_can_be_asked, answers_are}
use Rattle.fc_search.proofs.Told.{asks_there}
use Rattle.fc_search.proofs.round.responses_to.Goals as goal

pub questions_of-requires : goal.questions_of-requires
questions_of-requires g c =
    asks_there (request_view c.args.request.now) (world_of (map arc_value c.args.generations.now)) (state_view c.args.coord.now) c.requires.hearing ∙ length-world c.args.generations.now

pub responses_of-requires-clause-questions : goal.responses_of-requires-clause-questions
responses_of-requires-clause-questions g c κs within =
    let r = request_view c.args.request.now in
    let W = world_of (map arc_value c.args.generations.now) in
    let s = state_view c.args.coord.now in
    subst (All (λ q. CanBeAsked r (length c.args.generations.now) (question_view q))) (sym c.deref.ensures.value)
    (all_can_be_asked r W s (length c.args.generations.now) c.in_ok-questions.questions.items c.requires.hearing (length-world c.args.generations.now) c.in_ok-questions.ensures)

pub returns : goal.returns
returns g c =
    let r = request_view c.args.request.now in
    let W = world_of (map arc_value c.args.generations.now) in
    let s = state_view c.args.coord.now in
    subst (SpellAnswers c.in_ok-responses.responses.items) (ap (λ qs. map (answered r W) (map question_view qs)) c.deref.ensures.value ∙ ap (map (answered r W)) c.in_ok-questions.ensures ∙ answers_are r W 0 s.asks) c.in_ok-responses.ensures
