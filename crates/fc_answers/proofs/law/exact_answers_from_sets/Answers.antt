use Rattle.fc_answers.proofs.LeastAnswers.{exact_answers_from_sets}
use Rattle.fc_answers.proofs.law.exact_answers_from_sets.Goals as goal

pub returns : goal.returns
returns c = exact_answers_from_sets
