use Rattle.fc_spec.proofs.scripts.ValidSearches.{scripts_ask_valid}
use Rattle.fc_spec.proofs.requests.ValidWalk.{read_are_valid, read_are_valid_whole}
use Rattle.fc_spec.proofs.what_is_read_is_valid.Goals as goal

pub returns-clause-parts : goal.returns-clause-parts
returns-clause-parts c = read_are_valid

pub returns-clause-whole : goal.returns-clause-whole
returns-clause-whole c = read_are_valid_whole

pub returns-clause-scripts : goal.returns-clause-scripts
returns-clause-scripts c = scripts_ask_valid
