use Rattle.std.proofs.Common.{All, length, map, sym, ◌∙◌, subst}
use Rattle.std.specs.Arc.{arc_value}
use Rattle.fc_request.specs.RequestView.{request_view}
use Rattle.fc_exact.specs.CoreView.{state_view}
use Rattle.fc_round.specs.Askable.{world_of}
use Rattle.fc_round.specs.QuestionView.{question_view}
use Rattle.fc_round.specs.Questions.{CanBeAsked}
use Rattle.fc_round.proofs.OwnLimits.{length-world}
use Rattle.fc_tops.proofs.Asked.{all_can_be_asked, asks_there}
use Rattle.fc_tops.proofs.round.responses_to.Goals as goal

pub questions_of-requires : goal.questions_of-requires
questions_of-requires g c =
    let x = request_view c.args.request.now in
    let W = world_of (map arc_value c.args.generations.now) in
    let s = state_view c.args.core.now in
    asks_there x W s c.requires.hearing ∙ length-world c.args.generations.now

pub responses_of-requires-clause-questions : goal.responses_of-requires-clause-questions
responses_of-requires-clause-questions g c κs within =
    let x = request_view c.args.request.now in
    let W = world_of (map arc_value c.args.generations.now) in
    let s = state_view c.args.core.now in
    subst (All (λ q. CanBeAsked x (length c.args.generations.now) (question_view q))) (sym c.deref.ensures.value)
    (all_can_be_asked c.finding_laws.ensures x W s (length c.args.generations.now) c.in_ok-questions.questions.items c.requires.hearing c.requires.not_ready c.requires.nodes (length-world c.args.generations.now) c.in_ok-questions.ensures)
