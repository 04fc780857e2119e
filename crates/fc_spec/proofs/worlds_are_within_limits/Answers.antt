use Rattle.fc_spec.proofs.scripts.WorldTotals.{worlds_are_within}
use Rattle.fc_spec.proofs.worlds_are_within_limits.Goals as goal

pub returns : goal.returns
returns c = worlds_are_within
