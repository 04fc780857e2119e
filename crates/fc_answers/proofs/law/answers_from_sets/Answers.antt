use Rattle.fc_answers.proofs.SetAnswers.{answers_from_sets}
use Rattle.fc_answers.proofs.law.answers_from_sets.Goals as goal

pub returns : goal.returns
returns c = answers_from_sets
