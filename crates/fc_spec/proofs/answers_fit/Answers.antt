use Rattle.fc_spec.proofs.messages.FittingSums.{answers_fit}
use Rattle.fc_spec.proofs.answers_fit.Goals as goal

pub returns : goal.returns
returns c = answers_fit
