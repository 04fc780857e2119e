use Rattle.fc_spec.proofs.messages.FittingBuckets.{shaped_are_fitting}
use Rattle.fc_spec.proofs.messages.LacksThere.{lacks_are_there}
use Rattle.fc_spec.proofs.what_lacks_is_there.Goals as goal

pub returns-clause-fitting : goal.returns-clause-fitting
returns-clause-fitting c = shaped_are_fitting

pub returns-clause-there : goal.returns-clause-there
returns-clause-there c = lacks_are_there
