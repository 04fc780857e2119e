use Rattle.fc_hooks.proofs.Tables.{nothing_in_table}
use Rattle.fc_hooks.proofs.round_probe.RoundProbe.new.Goals as goal

pub returns : goal.returns
returns c = nothing_in_table 1024
