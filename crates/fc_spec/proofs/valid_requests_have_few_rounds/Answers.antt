use Rattle.fc_spec.proofs.requests.ValidNodes.{valid_have_few_depths, valid_have_few_rounds}
use Rattle.fc_spec.proofs.valid_requests_have_few_rounds.Goals as goal

pub returns-clause-depths : goal.returns-clause-depths
returns-clause-depths c = valid_have_few_depths

pub returns-clause-rounds : goal.returns-clause-rounds
returns-clause-rounds c = valid_have_few_rounds
