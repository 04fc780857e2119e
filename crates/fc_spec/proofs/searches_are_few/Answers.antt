use Rattle.fc_spec.proofs.scripts.SearchCounts.{searches_are_few}
use Rattle.fc_spec.proofs.searches_are_few.Goals as goal

pub returns : goal.returns
returns c = searches_are_few
