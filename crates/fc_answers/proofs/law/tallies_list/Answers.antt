use Rattle.fc_answers.proofs.ListedTallies.{tallies_list}
use Rattle.fc_answers.proofs.law.tallies_list.Goals as goal

pub returns : goal.returns
returns c = tallies_list
