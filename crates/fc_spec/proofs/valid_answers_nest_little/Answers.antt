use Rattle.fc_spec.proofs.requests.ValidNodes.{valid_answers_nest_little, exact_answers_nest_little}
use Rattle.fc_spec.proofs.valid_answers_nest_little.Goals as goal

pub returns-clause-answers : goal.returns-clause-answers
returns-clause-answers c = valid_answers_nest_little

pub returns-clause-exact : goal.returns-clause-exact
returns-clause-exact c = exact_answers_nest_little
