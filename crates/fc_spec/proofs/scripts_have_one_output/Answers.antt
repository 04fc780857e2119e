use Rattle.fc_spec.proofs.scripts.OnlyOutput.{is_only_output}
use Rattle.fc_spec.proofs.scripts_have_one_output.Goals as goal

pub returns : goal.returns
returns c = is_only_output
