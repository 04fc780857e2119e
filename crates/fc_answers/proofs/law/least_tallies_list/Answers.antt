use Rattle.fc_answers.proofs.LeastTallies.{least_tallies_list}
use Rattle.fc_answers.proofs.law.least_tallies_list.Goals as goal

pub returns : goal.returns
returns c = least_tallies_list
