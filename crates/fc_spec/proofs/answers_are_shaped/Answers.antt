use Rattle.fc_spec.proofs.messages.ShapedAnswers.{answers_are_shaped, leasts_are_shaped}
use Rattle.fc_spec.proofs.answers_are_shaped.Goals as goal

pub returns-clause-answers : goal.returns-clause-answers
returns-clause-answers c = answers_are_shaped

pub returns-clause-leasts : goal.returns-clause-leasts
returns-clause-leasts c = leasts_are_shaped
